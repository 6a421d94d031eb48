-- The rounds of elimination, along lists of variables with their lower bounds or values, and whether all that is made on the way
-- is within the limits.
use Rattle.std.specs.Prelude.{◌≡◌, ℕ, Bool, true, ◌&&◌, [], ◌∷◌, ◌++◌}
use Rattle.std.specs.List.{list_all}
use Rattle.pat_words_spec.specs.Patterns.{Pat, Var, subst_of}
use Rattle.pat_inclusion_spec.specs.ClosedForms.{is_small}
use Rattle.pat_solve_spec.specs.Assignments.{Values, put_in_turn, made_in_turn, base_of, derivative, slope_of, solved_for, second_round}

-- the pattern is as the simplifying forms make it
abbrev pub IsRebuilt : Pat → Type 0
IsRebuilt e = subst_of Var e ≡ e

-- each single replacement is within the limits
abbrev pub turn_fits : Values → Pat → Bool
turn_fits vs f = list_all is_small (made_in_turn vs f)

-- so is each pattern that is made once the earlier variables are replaced
abbrev pub solving_fits : ℕ → Pat → Bool
solving_fits k f = is_small (base_of k f) && (is_small (derivative k f) && (is_small (slope_of k f) && is_small (solved_for k f)))

-- the value of variable k with lower bound f, once those of earlier variables are there
abbrev pub next_value : Values → ℕ → Pat → Pat
next_value done k f = solved_for k (put_in_turn done f)

abbrev pub next_fits : Values → ℕ → Pat → Bool
next_fits done k f = turn_fits done f && solving_fits k (put_in_turn done f)

-- the first round over variables with their lower bounds
abbrev pub first_from : Values → Values → Values
first_from done [] = done
first_from done (v ∷ more) = first_from (done ++ (v.0, next_value done v.0 v.1) ∷ []) more

abbrev pub first_fits : Values → Values → Bool
first_fits done [] = true
first_fits done (v ∷ more) = next_fits done v.0 v.1 && first_fits (done ++ (v.0, next_value done v.0 v.1) ∷ []) more

-- the second round
abbrev pub second_fits : Values → Bool
second_fits [] = true
second_fits (v ∷ vs) = turn_fits (second_round vs) v.1 && second_fits vs
