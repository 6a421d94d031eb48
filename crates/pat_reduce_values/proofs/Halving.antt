-- The value of a variable, where the variables ascend, is found by halves.
use Rattle.std.proofs.Common.{◌≡◌, ℕ, zero, suc, ◌<◌, ◌≤◌, true, false, List, [], ◌∷◌, length, get_or, Some, None, Ok, Err, refl, sym, ◌∙◌, arith}
use Rattle.std.specs.Prelude.{nat_eq, nat_le, nat_lt}
use Rattle.std.specs.List.Sorted.{IsBinarySearchResult, IsNonDecreasingBy}
use Rattle.std.specs.Ordering.{nat_cmp, ordering_index}
use Rattle.std.proofs.lemmas.Cmp.{ranked}
use Rattle.std.proofs.lemmas.Bool.{cond-true, cond-false, ne_eqb, eq-eqb, ltb-true, ltb-false, leb-true, and_parts}
use Rattle.std.proofs.lemmas.Bool.Decides.{nat_tests}
use Rattle.pat_primitives.specs.Values.{value_at}
use Rattle.pat_reduce_values.specs.declared.values.Value.{Value}
use Rattle.pat_reduce_values.specs.Environments.{ascends_from}
use Rattle.pat_reduce_values.specs.ValueViews.{env_view, value_view}

abbrev pub Entries : Type 0
Entries = List (ℕ × Value)

key_above : (n : ℕ) (es : Entries) (i : ℕ) (d : ℕ × Value) → ascends_from n (env_view es) ≡ true → i < length es → n ≤ (get_or es i d).0
key_above n [] i d a h = omega arith
key_above n (e ∷ es) zero d a h = leb-true n e.0 (and_parts (nat_le n e.0) (ascends_from (suc e.0) (env_view es)) a).0
key_above n (e ∷ es) (suc i) d a h =
    let both = and_parts (nat_le n e.0) (ascends_from (suc e.0) (env_view es)) a in
    let first : n ≤ e.0 = leb-true n e.0 both.0 in
    let above = key_above (suc e.0) es i d both.1 (omega arith) in
    omega arith

keys_rise : (n : ℕ) (es : Entries) (i j : ℕ) (d : ℕ × Value) → ascends_from n (env_view es) ≡ true → i ≤ j → j < length es → (get_or es i d).0 ≤ (get_or es j d).0
keys_rise n [] i j d a le h = omega arith
keys_rise n (e ∷ es) zero zero d a le h = omega arith
keys_rise n (e ∷ es) zero (suc j) d a le h =
    let both = and_parts (nat_le n e.0) (ascends_from (suc e.0) (env_view es)) a in
    let above = key_above (suc e.0) es j d both.1 (omega arith) in
    omega arith
keys_rise n (e ∷ es) (suc i) zero d a le h = omega arith
keys_rise n (e ∷ es) (suc i) (suc j) d a le h =
    keys_rise (suc e.0) es i j d (and_parts (nat_le n e.0) (ascends_from (suc e.0) (env_view es)) a).1 (omega arith) (omega arith)

-- where the variable stands, that is its first entry
pub value_there : (n : ℕ) (es : Entries) (x i : ℕ) (d : ℕ × Value) → ascends_from n (env_view es) ≡ true → i < length es → (get_or es i d).0 ≡ x → Some (value_view (get_or es i d).1) ≡ value_at (env_view es) x
value_there n [] x i d a h is = absurd (omega arith)
value_there n (e ∷ es) x zero d a h is = sym (cond-true (nat_eq x e.0) (Some (value_view e.1)) (value_at (env_view es) x) (eq-eqb x e.0 (sym is)))
value_there n (e ∷ es) x (suc i) d a h is =
    let both = and_parts (nat_le n e.0) (ascends_from (suc e.0) (env_view es)) a in
    let above = key_above (suc e.0) es i d both.1 (omega arith) in
    let number : (get_or es i d).0 ≡ x = is in
    value_there (suc e.0) es x i d both.1 (omega arith) is
    ∙ sym (cond-false (nat_eq x e.0) (Some (value_view e.1)) (value_at (env_view es) x) (ne_eqb x e.0 (λ q. omega arith)))

-- where it stands nowhere, there is no value
none_there : (es : Entries) (x : ℕ) → ((i : ℕ) (d : ℕ × Value) → i < length es → (get_or es i d).0 ≡ x → ⊥) → None ≡ value_at (env_view es) x
none_there [] x h = refl
none_there (e ∷ es) x h =
    none_there es x (λ i d less is. h (suc i) d (omega arith) is)
    ∙ sym (cond-false (nat_eq x e.0) (Some (value_view e.1)) (value_at (env_view es) x) (ne_eqb x e.0 (λ q. h zero e (omega arith) (sym q))))

module _ (es : Entries) (x : ℕ) (ascend : ascends_from 0 (env_view es) ≡ true) where
  rise : IsNonDecreasingBy (λ e. ordering_index (nat_cmp e.0 x)) es
  rise i j d le h = let keys = keys_rise 0 es i j d ascend le h in grind (arith, nat_tests)

  -- a search for the variable ends at its entry, or there is none
  pub found : (i : ℕ) (d : ℕ × Value) → i < length es → IsBinarySearchResult (λ e. nat_cmp e.0 x) es (Ok i) → Some (value_view (get_or es i d).1) ≡ value_at (env_view es) x
  found i d within equal = value_there 0 es x i d ascend within (ranked _ x _ (sym (equal d)))

  pub not_found : (i : ℕ) → IsBinarySearchResult (λ e. nat_cmp e.0 x) es (Err i) → None ≡ value_at (env_view es) x
  not_found i parted = none_there es x (λ k d less is. go k d less is)
    where
      go : (k : ℕ) (d : ℕ × Value) → k < length es → (get_or es k d).0 ≡ x → ⊥
      go k d less is =
          (elim (nat_lt k i) as (λ b. nat_lt k i ≡ b → ⊥) [
            | true ↦ λ q. let front : k < i = ltb-true k i q in let lower : (get_or es k d).0 < x = ranked _ x _ (sym ((parted rise).0 k d (omega arith) front)) in omega arith
            | false ↦ λ q. let behind : i ≤ k = ltb-false k i q in let higher : x < (get_or es k d).0 = ranked _ x _ (sym ((parted rise).1 k d behind less)) in omega arith
          ]) refl
