use Rattle.std.proofs.Common.{◌≡◌, ◌++◌, drop, map}
use Rattle.pat_core.specs.Views.{clause_view}
use Rattle.pat_core.proofs.copying.copy_clauses.Given as goal

-- what is copied, and what is left, are the whole
abbrev pub invariant-loop-clause : goal.invariant-loop-clause
invariant-loop-clause l =
    map clause_view l.copied ++ map clause_view (drop l.clause-index l.clause-items) ≡ map clause_view l.clauses
