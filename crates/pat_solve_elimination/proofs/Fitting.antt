-- What has a closed form is small, so of the sides of constraints only that is looked at.
use Rattle.std.proofs.Common.{◌≡◌, ℕ, Bool, true, false, ◌&&◌, ⊎_elim, List, [], ◌∷◌, ◌++◌, refl, sym, ap, ◌∙◌}
use Rattle.std.specs.Prelude.{is_some}
use Rattle.std.specs.List.{list_all}
use Rattle.std.proofs.lemmas.Bool.{cases_Bool, and_parts, and_from}
use Rattle.std.proofs.lemmas.List.Folds.{list_all-append}
use Rattle.pat_words_spec.specs.Patterns.{Pat}
use Rattle.pat_inclusion_spec.specs.ClosedForms.{is_small, lists_are_short, closed_form}
use Rattle.pat_infer_spec.specs.Constraints.{Constraint}
use Rattle.pat_solve_spec.specs.Assignments.{made_first, made_second, first_round, sides_under, value_in, assigned, assignment_fits}
use Rattle.pat_solve_elimination.specs.assignment.Results.{rounds_fit}

abbrev has_form : ℕ → Pat → Bool
has_form n e = is_some (closed_form n e)

small_if : (n : ℕ) (e : Pat) → has_form n e ≡ true → is_small e ≡ true
small_if n e h =
    ⊎_elim
    (λ (s : (is_small e && lists_are_short n e) ≡ true). (and_parts (is_small e) (lists_are_short n e) s).0)
    (λ (l : (is_small e && lists_are_short n e) ≡ false). absurd (clash (sym h ∙ (rw l refl))))
    (cases_Bool (is_small e && lists_are_short n e))
  where
    clash : true ≡ false → ⊥
    clash p = cc

all_small_if : (n : ℕ) (es : List Pat) → list_all (has_form n) es ≡ true → list_all is_small es ≡ true
all_small_if n [] h = refl
all_small_if n (e ∷ es) h =
    let p = and_parts (has_form n e) (list_all (has_form n) es) h in
    and_from (is_small e) (list_all is_small es) (small_if n e p.0) (all_small_if n es p.1)

and_no : (b : Bool) → (b && false) ≡ false
and_no true = refl
and_no false = refl

absorbed : (n : ℕ) (es : List Pat) → (list_all is_small es && list_all (has_form n) es) ≡ list_all (has_form n) es
absorbed n es =
    ⊎_elim
    (λ (t : list_all (has_form n) es ≡ true). ap (λ b. b && list_all (has_form n) es) (all_small_if n es t))
    (λ (f : list_all (has_form n) es ≡ false). ap (λ b. list_all is_small es && b) f ∙ and_no (list_all is_small es) ∙ sym f)
    (cases_Bool (list_all (has_form n) es))

shuffle : (a b s f : Bool) → (s && f) ≡ f → ((a && (b && s)) && f) ≡ ((a && b) && f)
shuffle false b s f h = refl
shuffle true false s f h = refl
shuffle true true s f h = h

pub fits : (n : ℕ) (cs : List Constraint) (ks : List ℕ) → assignment_fits n cs ks ≡ (rounds_fit cs ks && list_all (has_form n) (sides_under (value_in (assigned cs ks)) cs))
fits n cs ks =
    let sides : List Pat = sides_under (value_in (assigned cs ks)) cs in
    let first : List Pat = made_first cs [] ks in
    let second : List Pat = made_second (first_round cs [] ks) in
    ap (λ b. b && list_all (has_form n) sides)
    (list_all-append is_small first (second ++ sides) ∙ ap (λ b. list_all is_small first && b) (list_all-append is_small second sides))
    ∙ shuffle (list_all is_small first) (list_all is_small second) (list_all is_small sides) (list_all (has_form n) sides) (absorbed n sides)
