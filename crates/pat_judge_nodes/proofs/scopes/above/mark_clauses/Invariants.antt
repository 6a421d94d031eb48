use Rattle.std.proofs.Common.{◌≡◌, drop, map}
use Rattle.pat_semantics_spec.specs.Programs.{clause_bodies}
use Rattle.pat_core.specs.Views.{clause_view}
use Rattle.pat_judge_nodes.specs.scopes.Upwards.{marked}
use Rattle.pat_judge_nodes.proofs.scopes.above.mark_clauses.Given as goal

-- what is marked, with the clauses that are left, is the whole
abbrev pub invariant-loop-clause : goal.invariant-loop-clause
invariant-loop-clause l =
    marked (clause_bodies (map clause_view (drop l.clause-index l.clauses))) l.node l.above
    ≡ marked (clause_bodies (map clause_view l.clauses)) l.node l.initial.above
