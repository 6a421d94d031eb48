use Rattle.std.proofs.Common.{◌≡◌, drop, map}
use Rattle.pat_semantics_spec.specs.Programs.{is_among}
use Rattle.pat_core.specs.Views.{clause_view}
use Rattle.pat_derivation_spec.specs.Scopes.{bound_by_clauses}
use Rattle.pat_judge_nodes.proofs.scopes.looking.clauses_bind.Given as goal

abbrev pub invariant-loop-clause : goal.invariant-loop-clause
invariant-loop-clause l =
    is_among l.variable (bound_by_clauses l.part (map clause_view (drop l.clause-index l.clauses)))
    ≡ is_among l.variable (bound_by_clauses l.part (map clause_view l.clauses))
