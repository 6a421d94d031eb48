-- The tree of the word that refutes is a least one.
use Rattle.std.specs.Prelude.{ℕ, ◌≤◌, Result, Ok, Err}
use Rattle.pat_words_spec.specs.Words.{Word}
use Rattle.pat_semantics_spec.specs.Programs.{Program}
use Rattle.pat_inclusion_spec.specs.bounds.Trees.{Bound, tree_size}
use Rattle.pat_inclusion_spec.specs.bounds.Searches.{Refutes}
use Rattle.pat_witnesses.specs.Views.{bound_view}
use Rattle.pat_infer_spec.specs.Constraints.{Constraint}
use Rattle.pat_solve_spec.specs.LowerBounds.{lowers_of}
use Rattle.pat_solve_spec.specs.Answers.{IsConstraint}
use Rattle.pat_solve_bounds.specs.results.Views.{IsSolution, IsRefusal}
use Rattle.pat_solve_bounds.specs.declared.results.solution.Solution.{Solution}
use Rattle.pat_solve_bounds.specs.declared.results.error.SolveError.{SolveError}
use Rattle.pat_solve_bounds.specs.declared.results.error.SolveError.TheVariants as error

-- no tree that refutes constraint n has fewer nodes, whichever word it shows
abbrev pub IsLeastRefutation : Program → ℕ → Bound → Type 0
IsLeastRefutation p n b =
    (c : Constraint) (w : Word) (d : Bound)
    → IsConstraint p n c
    → Refutes (lowers_of p) c.left c.right w d
    → tree_size b ≤ tree_size d

-- where the refusal says by which tree a constraint is refuted, that is a least one
abbrev pub IsSmallest : Program → SolveError → Type 0
IsSmallest p (error.Refuted n r) = IsLeastRefutation p n (bound_view r.tree)
IsSmallest p _ = Unit {0}

-- the right refusal, by a least tree
abbrev pub IsBestRefusal : Program → SolveError → Type 0
IsBestRefusal p (error.Refuted n r) = IsRefusal p (error.Refuted n r) × IsLeastRefutation p n (bound_view r.tree)
IsBestRefusal p e = IsRefusal p e

-- the right answer
abbrev pub IsBestAnswer : Program → Result Solution SolveError → Type 0
IsBestAnswer p (Ok s) = IsSolution p s
IsBestAnswer p (Err e) = IsBestRefusal p e
