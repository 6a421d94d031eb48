use Rattle.std.proofs.Common.{drop}
use Rattle.pat_types.specs.Views.{needs_view}
use Rattle.pat_solve_derivation.specs.certificates.Apart.{AreApart}
use Rattle.pat_solve_derivation.proofs.certificates.apart.are_apart.Given as goal

-- where the rest is apart from the body, all is
abbrev pub invariant-loop-name : goal.invariant-loop-name
invariant-loop-name l =
    AreApart (needs_view (drop l.name-index l.bound)) (needs_view l.body) → AreApart (needs_view l.bound) (needs_view l.body)
