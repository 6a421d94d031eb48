-- A variable that is bound in place.
use Rattle.std.proofs.Common.{◌≡◌, ◌+◌, ◌<◌, ◌≤◌, nat_eq, nat_lt, ℕ, Bool, true, false, List, ◌∷◌, ◌++◌, length, take, drop, Option, Some, None, slice_get, slice_set, ⊎_elim, subst, refl, ap, sym, ◌∙◌, arith, add-one, eq-eqb}
use Rattle.std.specs.List.{insert}
use Rattle.std.proofs.lemmas.Bool.{cond-true, cond-false, eqb-true, eqb-false, lt-ltb, le-ltb}
use Rattle.std.proofs.lemmas.List.{set_split, map-append, drop_more, drop_all}
use Rattle.std.proofs.lemmas.Option.{slice_get_within, slice_get_cases, get_or_from_slice_get}
use Rattle.pat_primitives.specs.Values.{Value, Env, bind}
use Rattle.pat_reduce_values.specs.declared.values.Value.{Value as CodeValue}
use Rattle.pat_reduce_values.specs.ValueViews.{value_view, env_view}
use Rattle.pat_reduce_values.specs.Environments.{IsPlaceFor, stands_at}

Entries : Type 0
Entries = List (ℕ × CodeValue)

past_end : {A : Type 0} (xs : List A) (i : ℕ) → slice_get xs i ≡ None → length xs ≤ i
past_end xs i h = ⊎_elim (λ q. let clash : Some q.0 ≡ None = sym q.2 ∙ h in absurd cc) (λ q. q.0) (slice_get_cases xs i).1

-- at its own entry the value is changed
bind_same : (e : ℕ × Value) (rest : Env) (x : ℕ) (v : Value) → nat_eq e.0 x ≡ true → bind (e ∷ rest) x v ≡ (x, v) ∷ rest
bind_same e rest x v h =
    let same = eqb-true e.0 x h in
    cond-false (nat_lt x e.0) ((x, v) ∷ e ∷ rest) _ (le-ltb x e.0 (omega arith))
    ∙ cond-true (nat_eq x e.0) ((x, v) ∷ rest) _ (eq-eqb x e.0 (sym same))

-- before a greater variable there is a new entry
bind_new : (e : ℕ × Value) (rest : Env) (x : ℕ) (v : Value) → x ≤ e.0 → nat_eq e.0 x ≡ false → bind (e ∷ rest) x v ≡ (x, v) ∷ e ∷ rest
bind_new e rest x v less h =
    let other : e.0 ≡ x → ⊥ = eqb-false e.0 x h in
    let strict : x < e.0 = omega (arith, other) in
    cond-true (nat_lt x e.0) ((x, v) ∷ e ∷ rest) _ (lt-ltb x e.0 strict)

module _ (env : List (ℕ × CodeValue)) (x i : ℕ) (w : CodeValue) (at : IsPlaceFor env x i) where
  front : (e : ℕ × CodeValue) → slice_get env i ≡ Some e → drop i env ≡ e ∷ drop (i + 1) env
  front e got = drop_more env i e (slice_get_within env i e got) ∙ ap (λ y. y ∷ drop (i + 1) env) (get_or_from_slice_get env i e e got)

  pub replaced : stands_at x (slice_get env i) ≡ true → env_view (slice_set env i (x, w)) ≡ bind (env_view env) x (value_view w)
  replaced h =
      (elim (slice_get env i) as (λ o. slice_get env i ≡ o → stands_at x o ≡ true → env_view (slice_set env i (x, w)) ≡ bind (env_view env) x (value_view w)) [
        | None ↦ λ got h. cc
        | Some e ↦ λ got h.
            ap env_view (set_split env i (x, w) (slice_get_within env i e got) ∙ ap (λ n. take i env ++ (x, w) ∷ drop n env) (sym (add-one i)))
            ∙ map-append _ (take i env) ((x, w) ∷ drop (i + 1) env)
            ∙ ap (λ l. env_view (take i env) ++ l) (sym (bind_same (e.0, value_view e.1) (env_view (drop (i + 1) env)) x (value_view w) h))
            ∙ ap (λ l. env_view (take i env) ++ bind (env_view l) x (value_view w)) (sym (front e got))
            ∙ sym (at.before (value_view w))
      ]) refl h

  new_here : (o : Option (ℕ × CodeValue)) → slice_get env i ≡ o → stands_at x o ≡ false → bind (env_view (drop i env)) x (value_view w) ≡ env_view ((x, w) ∷ drop i env)
  new_here None got h =
      let past = past_end env i got in
      ap (λ l. bind (env_view l) x (value_view w)) (drop_all i env past) ∙ ap (λ l. env_view ((x, w) ∷ l)) (sym (drop_all i env past))
  new_here (Some e) got h =
      ap (λ l. bind (env_view l) x (value_view w)) (front e got)
      ∙ bind_new (e.0, value_view e.1) (env_view (drop (i + 1) env)) x (value_view w) (at.here e got) h
      ∙ ap (λ l. env_view ((x, w) ∷ l)) (sym (front e got))

  pub inserted : stands_at x (slice_get env i) ≡ false → env_view (insert env i (x, w)) ≡ bind (env_view env) x (value_view w)
  inserted h =
      map-append _ (take i env) ((x, w) ∷ drop i env)
      ∙ ap (λ l. env_view (take i env) ++ l) (sym (new_here (slice_get env i) refl h))
      ∙ sym (at.before (value_view w))

-- the same where the environment is seen by slices
pub replaced_in : (env s t new : List (ℕ × CodeValue)) (x i : ℕ) (w : CodeValue) (b : Bool) → s ≡ env → t ≡ env → IsPlaceFor s x i → b ≡ stands_at x (slice_get t i) → b ≡ true → new ≡ slice_set env i (x, w) → env_view new ≡ bind (env_view env) x (value_view w)
replaced_in env s t new x i w b es et at is h put =
    ap env_view put ∙ replaced env x i w (subst (λ l. IsPlaceFor l x i) es at) (ap (λ l. stands_at x (slice_get l i)) (sym et) ∙ sym is ∙ h)

pub inserted_in : (env s t new : List (ℕ × CodeValue)) (x i : ℕ) (w : CodeValue) (b : Bool) → s ≡ env → t ≡ env → IsPlaceFor s x i → b ≡ stands_at x (slice_get t i) → b ≡ false → new ≡ insert env i (x, w) → env_view new ≡ bind (env_view env) x (value_view w)
inserted_in env s t new x i w b es et at is h put =
    ap env_view put ∙ inserted env x i w (subst (λ l. IsPlaceFor l x i) es at) (ap (λ l. stands_at x (slice_get l i)) (sym et) ∙ sym is ∙ h)
