-- What stands at the place of a variable is its value, and there is none where it has no place.
use Rattle.std.proofs.Common.{◌≡◌, ℕ, zero, suc, ◌<◌, ◌≤◌, ◌⊎◌, true, false, List, [], ◌∷◌, length, map, Some, None, ⊎_elim, refl, sym, ◌∙◌, subst, arith}
use Rattle.std.specs.Prelude.{get_or, nat_eq, slice_index_or}
use Rattle.std.proofs.lemmas.Bool.{cases_Bool, cases_eq, cases_order, eq-eqb, eqb-true, cond-true, cond-false}
use Rattle.std.specs.Map.{lookup}
use Rattle.pat_words_spec.specs.Patterns.{Pat}
use Rattle.pat_solve_bounded.specs.replacing.Ascending.{IsAscending, paired}

pub rest_ascends : (k : ℕ) (ks : List ℕ) → IsAscending (k ∷ ks) → IsAscending ks
rest_ascends k ks up i j h n = up (suc i) (suc j) (omega arith) (omega arith)

pub other_key : (k j : ℕ) → (k ≡ j → ⊥) → nat_eq k j ≡ false
other_key k j h =
    ⊎_elim (λ (t : nat_eq k j ≡ true). absurd (h (eqb-true k j t))) (λ (f : nat_eq k j ≡ false). f) (cases_Bool (nat_eq k j))

module _ {A : Type 0} (view : A → Pat) (d : A) where
  pub found_value : (ks : List ℕ) (xs : List A) (k i : ℕ) → IsAscending ks → length ks ≡ length xs → i < length ks → get_or ks i 0 ≡ k → Some (view (slice_index_or xs i d)) ≡ lookup (nat_eq k) (paired ks (map view xs))
  found_value [] xs k i up n h e = absurd (omega arith)
  found_value (j ∷ ks) [] k i up n h e = absurd (omega arith)
  found_value (j ∷ ks) (x ∷ xs) k zero up n h e = sym (cond-true (nat_eq k j) _ _ (eq-eqb k j (sym e)))
  found_value (j ∷ ks) (x ∷ xs) k (suc i) up n h e =
      let above : j < get_or ks i 0 = up 0 (suc i) (omega arith) h in
      let other : nat_eq k j ≡ false = other_key k j (λ same. omega (arith, above, e, same)) in
      found_value ks xs k i (rest_ascends j ks up) (omega arith) (omega arith) e ∙ sym (cond-false (nat_eq k j) _ _ other)

pub missing_value : (ks : List ℕ) (vs : List Pat) (k : ℕ) → ((i : ℕ) → i < length ks → get_or ks i 0 ≡ k → ⊥) → None ≡ lookup (nat_eq k) (paired ks vs)
missing_value [] vs k none = refl
missing_value (j ∷ ks) [] k none = refl
missing_value (j ∷ ks) (v ∷ vs) k none =
    let other : nat_eq k j ≡ false = other_key k j (λ same. none 0 (omega arith) (sym same)) in
    missing_value ks vs k (λ i h. none (suc i) (omega arith)) ∙ sym (cond-false (nat_eq k j) _ _ other)

-- ascending numbers don't fall
pub not_falling : (ks : List ℕ) → IsAscending ks → (i j : ℕ) → i ≤ j → j < length ks → get_or ks i 0 ≤ get_or ks j 0
not_falling ks up i j h n =
    ⊎_elim (λ (s : i ≡ j). subst (λ x. get_or ks i 0 ≤ get_or ks x 0) s (omega arith))
    (λ (d : i ≡ j → ⊥). let k : get_or ks i 0 < get_or ks j 0 = up i j (not_same i j h d) n in omega arith)
    (cases_eq i j)
  where
    not_same : (a b : ℕ) → a ≤ b → (a ≡ b → ⊥) → a < b
    not_same a b h d = ⊎_elim (λ (s : a ≡ b). absurd (d s)) (λ (o : (a < b) ⊎ (b < a)). ⊎_elim (λ (x : a < b). x) (λ (x : b < a). absurd (omega arith)) o) (cases_order a b)
