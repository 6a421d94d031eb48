use Rattle.std.proofs.Common.{◌≡◌}
use Rattle.pat_derivation_spec.specs.Validity.{first_bad}
use Rattle.pat_core.specs.Views.{program_view}
use Rattle.pat_derivations.specs.Views.{derivation_view}
use Rattle.pat_judge_nodes.specs.scopes.Upwards.{AreScopedBefore}
use Rattle.pat_judge.proofs.FirstBad.{found_from}
use Rattle.pat_judge.proofs.judging.first_of.Given as goal

-- no number before is bad, so what is named there is in scope
abbrev pub invariant-loop-number : goal.invariant-loop-number
invariant-loop-number l = record {
  found : found_from (program_view l.program) (derivation_view l.derivation) l.number ≡ first_bad (program_view l.program) (derivation_view l.derivation);
  before : AreScopedBefore (program_view l.program) (derivation_view l.derivation) l.number;
}
