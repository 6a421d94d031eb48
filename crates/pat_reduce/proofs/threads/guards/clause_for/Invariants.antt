use Rattle.std.proofs.Common.{◌≡◌, drop, map}
use Rattle.pat_semantics_spec.specs.Steps.{clause_for}
use Rattle.pat_core.specs.Views.{clause_view}
use Rattle.pat_reduce.proofs.threads.guards.clause_for.Given as goal

-- what is left decides it
abbrev pub invariant-loop-clause : goal.invariant-loop-clause
invariant-loop-clause l = clause_for l.tag (map clause_view (drop l.clause-index l.clauses)) ≡ clause_for l.tag (map clause_view l.clauses)
