use Rattle.std.proofs.Common.{drop}
use Rattle.std.specs.List.{AllByRecursion, flat_map}
use Rattle.pat_derivation_spec.specs.Demands.{inclusions_of}
use Rattle.pat_obligations.specs.Views.{demands_view}
use Rattle.pat_solve_spec.specs.Laws.{IsWritten}
use Rattle.pat_solve_derivation.specs.certificates.ClosedValues.{AreClosed}
use Rattle.pat_solve_derivation.specs.certificates.Making.{scope_in, forms_in, IsMet}
use Rattle.pat_solve_derivation.proofs.Added.{Completes}
use Rattle.pat_solve_derivation.proofs.certificates.adding.certificates.Given as goal

-- certificates for what is left make those for all
abbrev pub invariant-loop-demand : goal.invariant-loop-demand
invariant-loop-demand l = record {
  met : AllByRecursion (IsMet (scope_in l.solved) (forms_in l.solved)) (flat_map inclusions_of (demands_view (drop l.demand-index l.demands)));
  written : AllByRecursion IsWritten (demands_view (drop l.demand-index l.demands));
  made : Completes (scope_in l.solved) (forms_in l.solved) (flat_map inclusions_of (demands_view l.demands)) (flat_map inclusions_of (demands_view (drop l.demand-index l.demands))) l.certs;
  closed : AreClosed (scope_in l.solved) l.closed;
}
