use Rattle.std.proofs.Common.{◌≤◌, ◌-◌, length, drop}
use Rattle.pat_derivation_spec.specs.Derivations.{scope_of}
use Rattle.pat_core.specs.Views.{program_view}
use Rattle.pat_derivations.specs.Views.{derivation_view}
use Rattle.pat_obligations.specs.Views.{demands_view}
use Rattle.pat_judge_nodes.specs.uses.Settled.{FollowSettled}
use Rattle.pat_judge_nodes.proofs.uses.settled.from_open.Given as goal

abbrev pub decreases-loop-place : goal.decreases-loop-place
decreases-loop-place l = length l.demands - l.place

abbrev pub invariant-loop-place : goal.invariant-loop-place
invariant-loop-place l = record {
  inside : l.place ≤ length l.demands;
  follow : FollowSettled (scope_of (program_view l.program) (derivation_view l.derivation)) (demands_view (drop l.place l.demands)) (demands_view l.demands);
}
