use Rattle.std.proofs.Common.{arith}
use Rattle.pat_derivation_spec.specs.Derivations.{scope_of}
use Rattle.pat_core.specs.Views.{program_view}
use Rattle.pat_derivations.specs.Views.{derivation_view}
use Rattle.pat_obligations.specs.Views.{demands_view}
use Rattle.pat_judge_nodes.specs.uses.Settled.{none_before}
use Rattle.pat_judge_nodes.proofs.Settled.{passed_over}
use Rattle.pat_judge_nodes.proofs.uses.settled.from_open.Goals as goal

pub loop-place-init : goal.loop-place-init
loop-place-init c = record { inside = omega arith; follow = none_before }

pub loop-place-preserved : goal.loop-place-preserved
loop-place-preserved c = record {
  inside = omega (arith, c.loop-place-test.true);
  follow = passed_over (scope_of (program_view c.args.program.now) (derivation_view c.args.derivation.now)) c.args.demands.now c.loop-place.place c.index-demands-place.result (demands_view c.args.demands.now) c.loop-place-test.true c.index-demands-place.is (c.is_settled.ensures c.if-is_settled.true) c.loop-place.invariant.follow;
}
