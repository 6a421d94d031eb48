-- Closed forms of replaced sides; they are short.
use Rattle.std.proofs.Common.{◌≡◌, ℕ, ◌≤◌, ⊎_elim, true, false, ◌&&◌, List, [], ◌∷◌, length, Some, None, refl, sym, ◌∙◌, subst}
use Rattle.std.proofs.lemmas.Bool.{cases_Bool, and_parts, leb-true}
use Rattle.pat_words_spec.specs.Patterns.{Pat, Zero, One, Tag, Sum, Prod, Star, Var}
use Rattle.pat_inclusion_spec.specs.LinearSets.{LinearSet}
use Rattle.pat_inclusion_spec.specs.ClosedForms.{is_small, lists_are_short, stars_are_short, is_short, only_empty, products, set_star, times_stars, sets_of, closed_form}
use Rattle.pat_solve_bounded.specs.Limits.{within}
use Rattle.pat_limits.specs.Limits.{most_sets}

-- what is too large has no closed form
pub none_of : (n : ℕ) (e : Pat) → None ≡ within e → None ≡ closed_form n e
none_of n e h =
    ⊎_elim
    (λ (s : is_small e ≡ true). absurd (clash (h ∙ (rw s refl))))
    (λ (l : is_small e ≡ false). rw l refl)
    (cases_Bool (is_small e))
  where
    clash : None ≡ Some e → ⊥
    clash p = cc

-- what isn't is the pattern
pub part_is : (e x : Pat) → Some x ≡ within e → x ≡ e
part_is e x h =
    ⊎_elim
    (λ (s : is_small e ≡ true). own (h ∙ (rw s refl)))
    (λ (l : is_small e ≡ false). absurd (clash (h ∙ (rw l refl))))
    (cases_Bool (is_small e))
  where
    own : Some x ≡ Some e → x ≡ e
    own p = cc

    clash : Some x ≡ None → ⊥
    clash p = cc

-- ---- a closed form is short

stars_short : (n : ℕ) (made ss : List LinearSet) → is_short made ≡ true → stars_are_short n made ss ≡ true → is_short (times_stars n made ss) ≡ true
stars_short n made [] m h = m
stars_short n made (s ∷ ss) m h =
    let next : List LinearSet = products n made (set_star n s) in
    let p = and_parts (is_short next) (stars_are_short n next ss) h in
    stars_short n next ss p.0 p.1

short_sets : (n : ℕ) (e : Pat) → lists_are_short n e ≡ true → is_short (sets_of n e) ≡ true
short_sets n Zero h = refl
short_sets n One h = refl
short_sets n (Tag m) h = refl
short_sets n (Var k) h = refl
short_sets n (Sum e f) h = (and_parts (lists_are_short n e && lists_are_short n f) (is_short (sets_of n (Sum e f))) h).1
short_sets n (Prod e f) h = (and_parts (lists_are_short n e && lists_are_short n f) (is_short (sets_of n (Prod e f))) h).1
short_sets n (Star e) h =
    stars_short n (only_empty ∷ []) (sets_of n e) refl (and_parts (lists_are_short n e) (stars_are_short n (only_empty ∷ []) (sets_of n e)) h).1

form_is : (n : ℕ) (e : Pat) (ss : List LinearSet) → Some ss ≡ closed_form n e → (ss ≡ sets_of n e) × (lists_are_short n e ≡ true)
form_is n e ss h =
    ⊎_elim
    (λ (s : (is_small e && lists_are_short n e) ≡ true). (own (h ∙ (rw s refl)), (and_parts (is_small e) (lists_are_short n e) s).1))
    (λ (l : (is_small e && lists_are_short n e) ≡ false). absurd (clash (h ∙ (rw l refl))))
    (cases_Bool (is_small e && lists_are_short n e))
  where
    own : Some ss ≡ Some (sets_of n e) → ss ≡ sets_of n e
    own p = cc

    clash : Some ss ≡ None → ⊥
    clash p = cc

pub form_short : (n : ℕ) (e : Pat) (ss : List LinearSet) → Some ss ≡ closed_form n e → length ss ≤ most_sets
form_short n e ss h =
    let f = form_is n e ss h in
    subst (λ x. length x ≤ most_sets) (sym f.0) (leb-true (length (sets_of n e)) most_sets (short_sets n e f.1))
