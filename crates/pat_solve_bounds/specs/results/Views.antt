-- Solutions and refusals against the definition of the right answer.
use Rattle.std.specs.Prelude.{◌≡◌, ◌<◌, ℕ, List, length, Option, Some, None, slice_get, Result, Ok, Err}
use Rattle.pat_semantics_spec.specs.Programs.{Program}
use Rattle.pat_type_system_spec.specs.Typings.{IsTypable}
use Rattle.pat_bags.specs.Views.{word_of}
use Rattle.pat_witnesses.specs.Views.{bound_view}
use Rattle.pat_derivations.specs.Views.{vars_view}
use Rattle.pat_solve_spec.specs.Derived.{Form, Patterns, Grids}
use Rattle.pat_solve_spec.specs.Answers as answers
use Rattle.pat_solve_spec.specs.Answers.{IsRight, IsInBounds, AllUsable, solution}
use Rattle.pat_solve_bounds.specs.declared.results.solution.Solution.{Solution}
use Rattle.pat_solve_bounds.specs.declared.results.error.SolveError.{SolveError}
use Rattle.pat_solve_bounds.specs.declared.results.error.SolveError.TheVariants.{Unusable, TooLarge, Refuted, Undecided, NoMemory}

-- the form of an interface's values, if there is such an interface
abbrev pub form_of : Option (Option ℕ) → Form
form_of (Some (Some k)) = Grids k
form_of _ = Patterns

-- the form of each interface's values, by the bounds of grids
abbrev pub forms_of : List (Option ℕ) → ℕ → Form
forms_of bounds i = form_of (slice_get bounds i)

-- that the program is solved is the right answer, with these forms and some points, and the values are the solution's
pub record IsSolution (p : Program) (s : Solution) : Type 0 where
  pub points : ℕ → ℕ → List (List ℕ)
  pub right : IsRight p (answers.Solved (forms_of s.bounds) points)
  pub count : length s.bounds ≡ length p.interfaces
  pub values : vars_view s.values ≡ solution p (forms_of s.bounds) points

-- the answer is the right one; want of memory says nothing
abbrev pub IsRefusal : Program → SolveError → Type 0
IsRefusal p (Unusable k) = IsRight p (answers.Unusable k)
IsRefusal p (TooLarge i) = IsRight p (answers.TooLarge i)
IsRefusal p (Refuted n r) = IsRight p (answers.Refuted n (word_of r.word) (bound_view r.tree))
IsRefusal p (Undecided n) = IsRight p (answers.Undecided n)
IsRefusal p NoMemory = Unit {0}

abbrev pub IsAnswer : Program → Result Solution SolveError → Type 0
IsAnswer p (Ok s) = IsSolution p s
IsAnswer p (Err e) = IsRefusal p e

-- ---- what refusals say of typings

abbrev pub AllInBounds : Program → Type 0
AllInBounds p = (i : ℕ) → i < length p.interfaces → IsInBounds p i

-- a program of which a constraint is refuted can't be typed, nor one of which an interface in bounds is too large
abbrev pub IsUntypable : Program → SolveError → Type 0
IsUntypable p (Refuted n r) = IsTypable p → ⊥
IsUntypable p (TooLarge i) = IsInBounds p i → IsTypable p → ⊥
IsUntypable p _ = Unit {0}

-- nor is one refused that can be typed, of which each interface is in bounds and each sending variable of a signature has a
-- derivable word, but for want of memory
abbrev pub IsComplete : Program → SolveError → Type 0
IsComplete p NoMemory = Unit {0}
IsComplete p _ = AllInBounds p → AllUsable p → IsTypable p → ⊥
