-- Variables of an environment beside those that are asked, in turn.
use Rattle.std.proofs.Common.{◌≡◌, ℕ, zero, suc, ◌+◌, ◌<◌, ◌≤◌, ⊎_elim, Bool, true, false, not, ◌&&◌, if◌then◌else◌, nat_eq, List, [], ◌∷◌, length, drop, get_or, slice_get, Option, Some, refl, sym, ap, ◌∙◌, arith, add-one}
use Rattle.std.specs.Map.{keys_of}
use Rattle.std.proofs.lemmas.Bool.{cases_lt, eq-eqb, ne_eqb}
use Rattle.std.proofs.lemmas.List.{drop_all}
use Rattle.std.proofs.lemmas.Option.{slice_get-get_or, get_or_from_slice_get}
use Rattle.pat_semantics_spec.specs.Programs.{is_among, option_list}
use Rattle.pat_reduce_values.specs.declared.values.Value.{Value}
use Rattle.pat_reduce_values.specs.ValueViews.{env_view}
use Rattle.pat_checkpoint_parts.specs.Lists.{all_but, are_same, is_first}
use Rattle.pat_checkpoint_parts.proofs.Turns.{left_at}

abbrev pub Entries : Type 0
Entries = List (ℕ × Value)

-- the variables from a place on
abbrev pub keys_from : Entries → ℕ → List ℕ
keys_from env k = keys_of (env_view (drop k env))

-- ---- the first variable from a place on

pub first_at : (env : Entries) (k v : ℕ) (e : ℕ × Value) → slice_get env k ≡ Some e → nat_eq v e.0 ≡ is_first v (keys_from env k)
first_at [] zero v e h = cc
first_at [] (suc k) v e h = cc
first_at (d ∷ ds) zero v e h = let same : d ≡ e = cc in ap (λ (z : ℕ × Value). nat_eq v z.0) (sym same)
first_at (d ∷ ds) (suc k) v e h = first_at ds k v e h

pub no_first : (env : Entries) (k v : ℕ) → length env ≤ k → false ≡ is_first v (keys_from env k)
no_first env k v past = sym (ap (λ l. is_first v (keys_of (env_view l))) (drop_all k env past))

no_clash : (v : ℕ) (rest ks : List ℕ) → is_first v ks ≡ false → are_same (v ∷ rest) ks ≡ false
no_clash v rest [] h = refl
no_clash v rest (k ∷ ks) h = ap (λ b. b && are_same rest ks) h

there : (env : Entries) (k v : ℕ) → is_first v (keys_from env k) ≡ true → k < length env
there [] zero v h = cc
there [] (suc k) v h = cc
there (e ∷ es) zero v h = omega arith
there (e ∷ es) (suc k) v h = let less = there es k v h in omega arith

behind : (env : Entries) (k v : ℕ) (rest : List ℕ) → is_first v (keys_from env k) ≡ true → are_same (v ∷ rest) (keys_from env k) ≡ are_same rest (keys_from env (suc k))
behind [] zero v rest h = cc
behind [] (suc k) v rest h = cc
behind (e ∷ es) zero v rest h = ap (λ b. b && are_same rest (keys_of (env_view es))) h
behind (e ∷ es) (suc k) v rest h = behind es k v rest h

-- ---- at the end

some_left : (env : Entries) (k : ℕ) → k < length env → are_same [] (keys_from env k) ≡ false
some_left [] k less = absurd (omega arith)
some_left (e ∷ es) zero less = refl
some_left (e ∷ es) (suc k) less = some_left es k (omega arith)

pub at_end : (env : Entries) (k : ℕ) → k ≤ length env → nat_eq k (length env) ≡ are_same [] (keys_from env k)
at_end env k within =
    ⊎_elim
    (λ less. ne_eqb k (length env) (λ e. omega arith) ∙ sym (some_left env k less))
    (λ past. eq-eqb k (length env) (omega arith) ∙ sym (ap (λ l. are_same [] (keys_of (env_view l))) (drop_all k env past)))
    (cases_lt k (length env))

-- ---- a turn

module _ (vs : List ℕ) (i nothing : ℕ) (less : i < length vs) (but : Option ℕ) where
  abbrev pub v : ℕ
  v = get_or vs i nothing

  at : v ≡ get_or vs i v
  at = sym (get_or_from_slice_get vs i v v (slice_get-get_or vs i nothing less))

  skipped : is_among v (option_list but) ≡ true → all_but but (drop i vs) ≡ all_but but (drop (i + 1) vs)
  skipped h =
      ap (all_but but) (left_at vs i v less at)
      ∙ ap (λ b. if not b then v ∷ all_but but (drop (i + 1) vs) else all_but but (drop (i + 1) vs)) h

  kept : is_among v (option_list but) ≡ false → all_but but (drop i vs) ≡ v ∷ all_but but (drop (i + 1) vs)
  kept h =
      ap (all_but but) (left_at vs i v less at)
      ∙ ap (λ b. if not b then v ∷ all_but but (drop (i + 1) vs) else all_but but (drop (i + 1) vs)) h

  module _ (env : Entries) (k : ℕ) (whole : Bool) (same : are_same (all_but but (drop i vs)) (keys_from env k) ≡ whole) where
    pub left_out : is_among v (option_list but) ≡ true → are_same (all_but but (drop (i + 1) vs)) (keys_from env k) ≡ whole
    left_out h = sym (ap (λ l. are_same l (keys_from env k)) (skipped h)) ∙ same

    pub not_there : is_among v (option_list but) ≡ false → is_first v (keys_from env k) ≡ false → false ≡ whole
    not_there h other = sym (ap (λ l. are_same l (keys_from env k)) (kept h) ∙ no_clash v (all_but but (drop (i + 1) vs)) (keys_from env k) other) ∙ same

    pub is_there : is_among v (option_list but) ≡ false → is_first v (keys_from env k) ≡ true → (k + 1 ≤ length env) × (are_same (all_but but (drop (i + 1) vs)) (keys_from env (k + 1)) ≡ whole)
    is_there h stands =
        let within = there env k v stands in (
          omega arith,
          ap (λ n. are_same (all_but but (drop (i + 1) vs)) (keys_from env n)) (add-one k)
              ∙ sym (ap (λ l. are_same l (keys_from env k)) (kept h) ∙ behind env k v (all_but but (drop (i + 1) vs)) stands)
              ∙ same,
        )
