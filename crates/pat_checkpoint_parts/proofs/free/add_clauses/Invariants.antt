use Rattle.std.proofs.Common.{◌≡◌, ℕ, ◌||◌, drop, map}
use Rattle.std.specs.List.{list_any}
use Rattle.pat_semantics_spec.specs.Programs.{is_among, clause_uses}
use Rattle.pat_core.specs.Views.{clause_view}
use Rattle.pat_checkpoint_parts.specs.Lists.{is_listed}
use Rattle.pat_checkpoint_parts.proofs.free.add_clauses.Given as goal

-- what is in the list, and what is still to be added, is all of it
abbrev pub invariant-loop-clause : goal.invariant-loop-clause
invariant-loop-clause l =
    (x : ℕ) → (is_among x l.own || list_any (clause_uses (λ k. is_listed l.free k x) x) (map clause_view (drop l.clause-index l.clauses))) ≡ (is_among x l.fn.own || list_any (clause_uses (λ k. is_listed l.free k x) x) (map clause_view l.clauses))
