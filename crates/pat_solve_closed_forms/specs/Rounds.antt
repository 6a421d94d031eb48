-- What both rounds give of an interface's variables.
use Rattle.std.specs.Prelude.{◌≡◌, ℕ, true, false, List, length, Option, Some, None}
use Rattle.std.specs.List.{list_all}
use Rattle.pat_words_spec.specs.Patterns.{Pat}
use Rattle.pat_inclusion_spec.specs.ClosedForms.{is_small}
use Rattle.pat_infer_spec.specs.Constraints.{Constraint}
use Rattle.pat_solve_spec.specs.Assignments.{assigned}
use Rattle.pat_solve_bounded.specs.declared.measured.Measured.{Measured}
use Rattle.pat_solve_bounded.specs.Views.{measured_list}
use Rattle.pat_solve_bounded.specs.replacing.Ascending.{paired}
use Rattle.pat_solve_elimination.specs.assignment.Results.{rounds_fit}

-- the lower bounds, or one of them is too large
abbrev pub LowersAre : List Pat → Option (List Measured) → Type 0
LowersAre fs (Some ms) = measured_list ms ≡ fs
LowersAre fs None = list_all is_small fs ≡ false

-- the values, or something that is made on the way is too large
abbrev pub RoundsGive : List Constraint → List ℕ → Option (List Measured) → Type 0
RoundsGive cs ks (Some ms) = (paired ks (measured_list ms) ≡ assigned cs ks) × (length ms ≡ length ks) × (rounds_fit cs ks ≡ true)
RoundsGive cs ks None = rounds_fit cs ks ≡ false
