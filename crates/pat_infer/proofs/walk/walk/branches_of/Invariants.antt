use Rattle.std.proofs.Common.{◌≡◌, ◌++◌, map, drop}
use Rattle.pat_infer_spec.specs.Walk.{branches_of}
use Rattle.pat_core.specs.Views.{clause_view}
use Rattle.pat_infer.specs.walk.Walking.{branch_view}
use Rattle.pat_infer.proofs.walk.walk.branches_of.Given as goal

-- the branches so far, and those of the clauses that are left
abbrev pub invariant-loop-clause : goal.invariant-loop-clause
invariant-loop-clause l = map branch_view l.branches.items ++ branches_of l.waiting (map clause_view (drop l.clause-index l.clauses)) ≡ branches_of l.initial.waiting (map clause_view l.clauses)
