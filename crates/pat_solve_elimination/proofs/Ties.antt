-- The rounds along lower bounds are those by constraints, and what fits of them is what is made on the way.
use Rattle.std.proofs.Common.{◌≡◌, ℕ, Bool, true, false, ◌&&◌, List, [], ◌∷◌, ◌++◌, map, Result, refl, sym, ap, ◌∙◌, subst}
use Rattle.std.specs.List.{list_all, AllByRecursion}
use Rattle.std.proofs.lemmas.List.Folds.{list_all-append}
use Rattle.pat_words_spec.specs.Patterns.{Pat}
use Rattle.pat_inclusion_spec.specs.ClosedForms.{is_small}
use Rattle.pat_infer_spec.specs.Constraints.{Constraint}
use Rattle.pat_solve_spec.specs.LowerBounds.{lowers}
use Rattle.pat_solve_spec.specs.Assignments.{Values, put_in_turn, made_in_turn, base_of, derivative, slope_of, solved_for, first_round, made_for, made_first, second_round, made_second, assigned}
use Rattle.pat_solve_bounded.specs.declared.measured.Measured.{Measured}
use Rattle.pat_solve_bounded.specs.Views.{measured_list}
use Rattle.pat_solve_bounded.specs.replacing.Ascending.{paired}
use Rattle.pat_solve_elimination.specs.declared.error.RoundError.{RoundError}
use Rattle.pat_solve_elimination.specs.Rounds.{turn_fits, next_fits, first_from, first_fits, second_fits}
use Rattle.pat_solve_elimination.specs.assignment.Results.{GivesValues, rounds_fit}

and_yes : (b : Bool) → (b && true) ≡ b
and_yes true = refl
and_yes false = refl

abbrev AreSmall : List Pat → Type 0
AreSmall fs = AllByRecursion (λ f. is_small f ≡ true) fs

pub all_small : (ms : List Measured) → AreSmall (measured_list ms)
all_small [] = tt
all_small (m ∷ ms) = (m.sizes.small, all_small ms)

module _ (cs : List Constraint) where
  -- what is made of one variable
  for_fits : (done : Values) (k : ℕ) → is_small (lowers cs k) ≡ true → list_all is_small (made_for cs done k) ≡ next_fits done k (lowers cs k)
  for_fits done k small =
      let l : Pat = lowers cs k in
      let f : Pat = put_in_turn done l in
      list_all-append is_small (l ∷ made_in_turn done l) (base_of k f ∷ derivative k f ∷ slope_of k f ∷ solved_for k f ∷ [])
      ∙ ap (λ b. (b && turn_fits done l) && (is_small (base_of k f) && (is_small (derivative k f) && (is_small (slope_of k f) && (is_small (solved_for k f) && true))))) small
      ∙ ap (λ b. turn_fits done l && (is_small (base_of k f) && (is_small (derivative k f) && (is_small (slope_of k f) && b)))) (and_yes (is_small (solved_for k f)))

  first_values : (done : Values) (ks : List ℕ) → first_round cs done ks ≡ first_from done (paired ks (map (lowers cs) ks))
  first_values done [] = refl
  first_values done (k ∷ ks) = first_values (done ++ (k, solved_for k (put_in_turn done (lowers cs k))) ∷ []) ks

  first_made : (done : Values) (ks : List ℕ) → AreSmall (map (lowers cs) ks) → list_all is_small (made_first cs done ks) ≡ first_fits done (paired ks (map (lowers cs) ks))
  first_made done [] s = refl
  first_made done (k ∷ ks) s =
      let next : Values = done ++ (k, solved_for k (put_in_turn done (lowers cs k))) ∷ [] in
      list_all-append is_small (made_for cs done k) (made_first cs next ks)
      ∙ ap (λ b. b && list_all is_small (made_first cs next ks)) (for_fits done k s.0)
      ∙ ap (λ b. next_fits done k (lowers cs k) && b) (first_made next ks s.1)

second_made : (vs : Values) → list_all is_small (made_second vs) ≡ second_fits vs
second_made [] = refl
second_made (v ∷ vs) =
    list_all-append is_small (made_in_turn (second_round vs) v.1) (made_second vs)
    ∙ ap (λ b. turn_fits (second_round vs) v.1 && b) (second_made vs)

-- both rounds
pub tied : (cs : List Constraint) (ks : List ℕ) (fs : List Pat) (r : Result (List Measured) RoundError) → map (lowers cs) ks ≡ fs → AreSmall fs → GivesValues ks r (first_fits [] (paired ks fs) && second_fits (first_from [] (paired ks fs))) (second_round (first_from [] (paired ks fs))) → GivesValues ks r (rounds_fit cs ks) (assigned cs ks)
tied cs ks fs r are small g =
    let ls : List Pat = map (lowers cs) ks in
    let own : GivesValues ks r (first_fits [] (paired ks ls) && second_fits (first_from [] (paired ks ls))) (second_round (first_from [] (paired ks ls))) =
    subst (λ x. GivesValues ks r (first_fits [] (paired ks x) && second_fits (first_from [] (paired ks x))) (second_round (first_from [] (paired ks x)))) (sym are) g in
    let values : first_from [] (paired ks ls) ≡ first_round cs [] ks = sym (first_values cs [] ks) in
    let moved : GivesValues ks r (first_fits [] (paired ks ls) && second_fits (first_round cs [] ks)) (second_round (first_round cs [] ks)) =
    subst (λ x. GivesValues ks r (first_fits [] (paired ks ls) && second_fits x) (second_round x)) values own in
    let first : first_fits [] (paired ks ls) ≡ list_all is_small (made_first cs [] ks) = sym (first_made cs [] ks (subst AreSmall (sym are) small)) in
    let second : second_fits (first_round cs [] ks) ≡ list_all is_small (made_second (first_round cs [] ks)) = sym (second_made (first_round cs [] ks)) in
    subst (λ b. GivesValues ks r (list_all is_small (made_first cs [] ks) && b) (assigned cs ks)) second
    (subst (λ b. GivesValues ks r (b && second_fits (first_round cs [] ks)) (assigned cs ks)) first moved)
