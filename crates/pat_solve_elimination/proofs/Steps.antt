-- One elimination after the replacements before it; and one round after the other.
use Rattle.std.proofs.Common.{◌≡◌, ℕ, zero, suc, Bool, true, ◌&&◌, List, [], ◌∷◌, ◌++◌, drop, Result, refl, sym, ap, subst}
use Rattle.std.specs.Prelude.{Err, slice_set}
use Rattle.pat_words_spec.specs.Patterns.{Pat}
use Rattle.pat_solve_spec.specs.Assignments.{Values, put_in_turn, solved_for, second_round}
use Rattle.pat_solve_bounded.specs.declared.measured.Measured.{Measured}
use Rattle.pat_solve_bounded.specs.Views.{measured_view, measured_list}
use Rattle.pat_solve_elimination.specs.declared.error.RoundError.{RoundError}
use Rattle.pat_solve_elimination.specs.declared.error.RoundError.TheVariants.{TooLarge, NoMemory}
use Rattle.pat_solve_elimination.specs.Rounds.{turn_fits, solving_fits, next_value, next_fits, second_fits}
use Rattle.pat_solve_elimination.specs.Results.{Gives}
use Rattle.pat_solve_elimination.specs.assignment.Results.{GivesValues}

pub not_replaced : (done : Values) (k : ℕ) (lower : Pat) (e : RoundError) → Gives (Err e) (turn_fits done lower) (put_in_turn done lower) → Gives (Err e) (next_fits done k lower) (next_value done k lower)
not_replaced done k lower TooLarge h = ap (λ b. b && solving_fits k (put_in_turn done lower)) h
not_replaced done k lower NoMemory h = tt

pub solved : (done : Values) (k : ℕ) (lower f : Pat) (r : Result Measured RoundError) → f ≡ put_in_turn done lower → turn_fits done lower ≡ true → Gives r (solving_fits k f) (solved_for k f) → Gives r (next_fits done k lower) (next_value done k lower)
solved done k lower f r is ok g =
    let own : Gives r (solving_fits k (put_in_turn done lower)) (next_value done k lower) = subst (λ x. Gives r (solving_fits k x) (solved_for k x)) is g in
    subst (λ b. Gives r (b && solving_fits k (put_in_turn done lower)) (next_value done k lower)) (sym ok) own

-- the first round gives none
pub none_first : (ks : List ℕ) (first second : Bool) (vs ws : Values) (e : RoundError) → GivesValues ks (Err e) first vs → GivesValues ks (Err e) (first && second) ws
none_first ks first second vs ws TooLarge h = ap (λ b. b && second) h
none_first ks first second vs ws NoMemory h = tt

-- the second round by what the first one gives
pub both_rounds_give : (ks : List ℕ) (first : Bool) (vs us : Values) (r : Result (List Measured) RoundError) → us ≡ vs → first ≡ true → GivesValues ks r (second_fits us) (second_round us) → GivesValues ks r (first && second_fits vs) (second_round vs)
both_rounds_give ks first vs us r same ok g =
    let own : GivesValues ks r (second_fits vs) (second_round vs) = subst (λ x. GivesValues ks r (second_fits x) (second_round x)) same g in
    subst (λ b. GivesValues ks r (b && second_fits vs) (second_round vs)) (sym ok) own

-- one value more, seen as patterns
pub list_more : (ms : List Measured) (m : Measured) → measured_list (ms ++ m ∷ []) ≡ measured_list ms ++ measured_view m ∷ []
list_more [] m = refl
list_more (x ∷ ms) m = ap (λ r. measured_view x ∷ r) (list_more ms m)

-- one value set, seen as patterns
pub list_set : (ms : List Measured) (i : ℕ) (m : Measured) → measured_list (slice_set ms i m) ≡ slice_set (measured_list ms) i (measured_view m)
list_set [] zero m = refl
list_set [] (suc i) m = refl
list_set (x ∷ ms) zero m = refl
list_set (x ∷ ms) (suc i) m = ap (λ r. measured_view x ∷ r) (list_set ms i m)

-- the values from a place on, seen as patterns
pub list_from : (ms : List Measured) (i : ℕ) → measured_list (drop i ms) ≡ drop i (measured_list ms)
list_from ms zero = refl
list_from [] (suc i) = refl
list_from (x ∷ ms) (suc i) = list_from ms i
