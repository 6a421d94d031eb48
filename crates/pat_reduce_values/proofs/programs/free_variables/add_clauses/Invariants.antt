use Rattle.std.proofs.Common.{◌≡◌, ℕ, ◌||◌, drop, map}
use Rattle.std.specs.List.{list_any}
use Rattle.pat_semantics_laws.specs.Programs.{is_among, clause_uses}
use Rattle.pat_core.specs.Views.{clause_view}
use Rattle.pat_reduce_values.specs.programs.FreeVariables.{is_listed}
use Rattle.pat_reduce_values.proofs.programs.free_variables.add_clauses.Given as goal

-- what is in the list, and what is still to be added, is all of it
abbrev pub invariant-loop-clause : goal.invariant-loop-clause
invariant-loop-clause l =
    (x : ℕ) → (is_among x l.own.listed || list_any (clause_uses (λ k. is_listed l.free k x) x) (map clause_view (drop l.clause-index l.clauses))) ≡ (is_among x l.fn.own.listed || list_any (clause_uses (λ k. is_listed l.free k x) x) (map clause_view l.clauses))
