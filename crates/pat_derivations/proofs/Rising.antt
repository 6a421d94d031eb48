-- What stands among numbers that ascend is found by halving.
use Rattle.std.proofs.Common.{◌≡◌, ℕ, zero, suc, ◌+◌, ◌-◌, ◌<◌, ◌≤◌, ◌⊎◌, ⊎_elim, Bool, true, false, ◌||◌, List, [], ◌∷◌, length, get_or, take, drop, Result, Ok, Err, refl, sym, ap, ap₂, ◌∙◌, subst, arith}
use Rattle.std.specs.Prelude.{nat_eq, is_ok}
use Rattle.std.specs.List.Sorted.{IsBinarySearchResult}
use Rattle.std.specs.Ordering.{nat_cmp}
use Rattle.std.proofs.lemmas.Bool.{ne_eqb, eq-eqb, cases_order, cases_lt}
use Rattle.std.proofs.lemmas.List.{get_or-take, length-take-le, take-append-drop, take_rest}
use Rattle.std.proofs.lemmas.List.Folds.{list_any-append, list_any_at}
use Rattle.std.proofs.lemmas.List.Sorted.{searched}
use Rattle.pat_semantics_spec.specs.Programs.{is_among}
use Rattle.pat_derivations.specs.environments.Lists.{NeverFalls}

-- what stands nowhere is not among them
absent : (x : ℕ) (xs : List ℕ) → ((k : ℕ) → k < length xs → get_or xs k 0 ≡ x → ⊥) → is_among x xs ≡ false
absent x [] h = refl
absent x (y ∷ ys) h = ap₂ (λ a b. a || b) (ne_eqb x y (λ q. h zero (omega arith) (sym q))) (absent x ys (λ k l. h (suc k) (omega arith)))

-- halving says whether the number is among those that never fall
pub found_among : (xs : List ℕ) (x : ℕ) (r : Result ℕ ℕ) → IsBinarySearchResult (λ y. nat_cmp y x) xs r → NeverFalls xs → is_ok r ≡ is_among x xs
found_among xs x (Ok i) s up = let at = searched xs x (Ok i) s up in sym (list_any_at (nat_eq x) xs i 0 at.0 (eq-eqb x (get_or xs i 0) (sym at.1)))
found_among xs x (Err i) s up =
    let gap = searched xs x (Err i) s up in
    sym (absent x xs (λ k l same. ⊎_elim
    (λ (e : k ≡ i). let above = gap.2 k (omega arith) l in omega arith)
    (λ (o : (k < i) ⊎ (i < k)). ⊎_elim (λ (f : k < i). let below = gap.1 k f in omega arith) (λ (b : i < k). let above = gap.2 k (omega arith) l in omega arith) o)
    (cases_order k i)))

-- what is among the first or among the others is among all
pub among_both : (x k : ℕ) (xs : List ℕ) → (is_among x (take k xs) || is_among x (take (length xs - k) (drop k xs))) ≡ is_among x xs
among_both x k xs =
    ap (λ l. is_among x (take k xs) || is_among x l) (take_rest xs k)
    ∙ sym (list_any-append (nat_eq x) (take k xs) (drop k xs))
    ∙ ap (is_among x) (take-append-drop k xs)

pub in_first : (r a b w : Bool) → r ≡ true → r ≡ a → (a || b) ≡ w → r ≡ w
in_first r true b w t e h = t ∙ h
in_first r false b w t e h = absurd (cc)

pub in_second : (r q a b w : Bool) → r ≡ false → r ≡ a → q ≡ b → (a || b) ≡ w → q ≡ w
in_second r q true b w f e g h = absurd (cc)
in_second r q false b w f e g h = g ∙ h

-- the first so many never fall, and none is above the limit
pub record Rises (xs : List ℕ) (place limit : ℕ) : Type 0 where
  pub rising : (i j : ℕ) → i ≤ j → j < place → get_or xs i 0 ≤ get_or xs j 0
  pub below : (i : ℕ) → i < place → get_or xs i 0 ≤ limit

pub none_rise : (xs : List ℕ) (limit : ℕ) → Rises xs 0 limit
none_rise xs limit = record { rising = λ i j le l. absurd (omega arith); below = λ i l. absurd (omega arith) }

pub rises_on : (xs : List ℕ) (place limit : ℕ) → Rises xs place limit → limit ≤ get_or xs place 0 → Rises xs (place + 1) (get_or xs place 0)
rises_on xs place limit r h = record {
  rising = λ i j le l. ⊎_elim (λ (s : j < place). r.rising i j le s) (λ (o : place ≤ j). go i j le (same j place (omega arith) o)) (cases_lt j place);
  below = λ i l. under i (omega arith);
}
  where
    same : (a b : ℕ) → a ≤ b → b ≤ a → a ≡ b
    same a b h k = omega arith

    under : (i : ℕ) → i ≤ place → get_or xs i 0 ≤ get_or xs place 0
    under i le =
        ⊎_elim (λ (s : i < place). let b = r.below i s in omega arith)
        (λ (o : place ≤ i). subst (λ m. get_or xs i 0 ≤ get_or xs m 0) (same i place le o) (omega arith))
        (cases_lt i place)

    go : (i j : ℕ) → i ≤ j → j ≡ place → get_or xs i 0 ≤ get_or xs j 0
    go i j le e = subst (λ m. get_or xs i 0 ≤ get_or xs m 0) (sym e) (under i (omega arith))

pub never_falls : (xs : List ℕ) (place limit : ℕ) → place ≤ length xs → Rises xs place limit → NeverFalls (take place xs)
never_falls xs place limit h r i j le l =
    let n : length (take place xs) ≡ place = length-take-le place xs h in
    subst (λ a. a ≤ get_or (take place xs) j 0) (sym (get_or-take place xs i 0 (omega arith)))
    (subst (λ b. get_or xs i 0 ≤ b) (sym (get_or-take place xs j 0 (omega arith))) (r.rising i j le (omega arith)))
