use Rattle.std.proofs.Common.{◌-◌, arith}
use Rattle.pat_derivations.proofs.Halving.{none_behind, rises_before}
use Rattle.pat_derivations.proofs.environments.lookups.rising_end.Goals as goal
use Rattle.pat_limits.specs.Limits.{number_count}

pub loop-rising-init : goal.loop-rising-init
loop-rising-init c = record { within = omega arith; behind = none_behind c.args.env.now number_count }

pub loop-rising-preserved : goal.loop-rising-preserved
loop-rising-preserved c = record {
  within = omega arith;
  behind = rises_before c.args.env.now c.loop-rising.rising (c.loop-rising.rising - 1) c.loop-rising.next c.index-env-rising.result (omega arith) c.loop-rising.invariant.within c.loop-rising.invariant.behind (omega (arith, c.if-variable-next.false));
}
