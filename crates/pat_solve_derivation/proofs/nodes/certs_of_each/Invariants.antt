use Rattle.std.proofs.Common.{map}
use Rattle.pat_core.specs.Views.{program_view}
use Rattle.pat_derivations.specs.Views.{certs_view, derivation_view}
use Rattle.pat_solve_derivation.specs.certificates.ClosedValues.{AreClosed}
use Rattle.pat_solve_derivation.specs.certificates.Making.{scope_in, forms_in}
use Rattle.pat_solve_derivation.specs.Made.{AreMadeTo}
use Rattle.pat_solve_derivation.proofs.nodes.certs_of_each.Given as goal

-- the certificates of the nodes before this one, and closed forms that are made
abbrev pub invariant-loop-number : goal.invariant-loop-number
invariant-loop-number l = record {
  made : AreMadeTo (program_view l.solved.program.now) (derivation_view l.solved.derivation.now).vars (forms_in l.solved) l.number (map certs_view l.all);
  closed : AreClosed (scope_in l.solved) l.closed;
}
