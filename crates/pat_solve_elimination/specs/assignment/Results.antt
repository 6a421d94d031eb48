-- A result against values of variables and the limits.
use Rattle.std.specs.Prelude.{◌≡◌, ℕ, Bool, true, false, ◌&&◌, List, [], length, Result, Ok, Err}
use Rattle.std.specs.List.{list_all}
use Rattle.pat_inclusion_spec.specs.ClosedForms.{is_small}
use Rattle.pat_infer_spec.specs.Constraints.{Constraint}
use Rattle.pat_solve_spec.specs.Assignments.{Values, made_first, made_second, first_round}
use Rattle.pat_solve_bounded.specs.declared.measured.Measured.{Measured}
use Rattle.pat_solve_bounded.specs.Views.{measured_list}
use Rattle.pat_solve_bounded.specs.replacing.Ascending.{paired}
use Rattle.pat_solve_elimination.specs.declared.error.RoundError.{RoundError}
use Rattle.pat_solve_elimination.specs.declared.error.RoundError.TheVariants.{TooLarge, NoMemory}

-- a value for each of the variables, where all that is made is within the limits, and otherwise that it is too large
abbrev pub GivesValues : List ℕ → Result (List Measured) RoundError → Bool → Values → Type 0
GivesValues ks (Ok ms) fits vs = (paired ks (measured_list ms) ≡ vs) × (length ms ≡ length ks) × (fits ≡ true)
GivesValues ks (Err TooLarge) fits vs = fits ≡ false
GivesValues ks (Err NoMemory) fits vs = Unit {0}

-- all that both rounds make is within the limits
abbrev pub rounds_fit : List Constraint → List ℕ → Bool
rounds_fit cs ks = list_all is_small (made_first cs [] ks) && list_all is_small (made_second (first_round cs [] ks))
