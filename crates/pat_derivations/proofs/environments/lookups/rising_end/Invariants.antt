use Rattle.std.proofs.Common.{◌≤◌, length}
use Rattle.pat_derivations.proofs.Halving.{RisesBehind}
use Rattle.pat_derivations.proofs.environments.lookups.rising_end.Given as goal

abbrev pub invariant-loop-rising : goal.invariant-loop-rising
invariant-loop-rising l = record { within : l.rising ≤ length l.env; behind : RisesBehind l.env l.rising l.next }

abbrev pub decreases-loop-rising : goal.decreases-loop-rising
decreases-loop-rising l = l.rising
