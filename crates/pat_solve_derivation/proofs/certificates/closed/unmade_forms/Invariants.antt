use Rattle.pat_inclusion_spec.specs.Values.{Scope}
use Rattle.pat_solve_derivation.specs.certificates.ClosedValues.{AreClosed}
use Rattle.pat_solve_derivation.proofs.certificates.closed.unmade_forms.Given as goal

-- none is made
abbrev pub invariant-loop : goal.invariant-loop
invariant-loop l = (s : Scope) → AreClosed s l.closed
