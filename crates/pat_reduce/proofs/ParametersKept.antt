-- The part of the arguments' values that a body keeps.
use Rattle.std.proofs.Common.{◌≡◌, ℕ, suc, ◌+◌, ◌<◌, Bool, true, false, nat_lt, List, [], ◌∷◌, ◌++◌, Option, Some, None, refl, sym, ap, ◌∙◌, lt-ltb}
use Rattle.std.specs.Prelude.{option_map, filter, if◌then◌else◌}
use Rattle.pat_semantics_spec.specs.Values.{Value, Env}
use Rattle.pat_semantics_spec.specs.Programs.{Program, is_free, keep}
use Rattle.pat_semantics_spec.specs.Configs.{Control, Running}
use Rattle.pat_semantics_spec.specs.Steps.{numbered, at_node}
use Rattle.pat_reduce_values.specs.Environments.{parameter, parameters_from}
use Rattle.pat_limits.specs.Limits.{number_count}

module _ (p : Program) (n : ℕ) (small : (x : ℕ) → is_free p x n ≡ true → x < number_count) where
  -- a value past the last number isn't kept
  first_kept : (k : ℕ) (v : Value) (rest : Env) → keep p n (parameter k v ++ rest) ≡ keep p n ((k, v) ∷ rest)
  first_kept k v rest =
      (elim (is_free p k n) as (λ b. is_free p k n ≡ b → filter (λ b. is_free p b.0 n) (parameter k v ++ rest) ≡ (if b then (k, v) ∷ keep p n rest else keep p n rest)) [
        | true ↦ λ is.
            ap (λ t. filter (λ b. is_free p b.0 n) ((if t then (k, v) ∷ [] else []) ++ rest)) (lt-ltb k number_count (small k is))
            ∙ ap (λ t. if t then (k, v) ∷ keep p n rest else keep p n rest) is
        | false ↦ λ is.
            (elim (nat_lt k number_count) as (λ t. filter (λ b. is_free p b.0 n) ((if t then (k, v) ∷ [] else []) ++ rest) ≡ keep p n rest) [
              | true ↦ ap (λ t. if t then (k, v) ∷ keep p n rest else keep p n rest) is
              | false ↦ refl
            ])
      ]) refl

  pub all_kept : (k : ℕ) (vs : List Value) → keep p n (parameters_from k vs) ≡ keep p n (numbered k vs)
  all_kept k [] = refl
  all_kept k (v ∷ vs) =
      first_kept k v (parameters_from (suc k) vs)
      ∙ ap (λ l. if is_free p k n then (k, v) ∷ l else l) (all_kept (suc k) vs)

  -- the body with the values under 32-bit numbers is the body with all
  pub enters : (o : Option (List Value)) (own : Env) (k : Control) → option_map (parameters_from 0) o ≡ Some own → k ≡ at_node p n own → option_map (at_node p n) (option_map (numbered 0) o) ≡ Some k
  enters None own k none is = absurd cc
  enters (Some vs) own k some is =
      let same : parameters_from 0 vs ≡ own = cc in
      sym (ap Some is ∙ ap (λ e. Some (at_node p n e)) (sym same) ∙ ap (λ e. Some (Running n e)) (all_kept 0 vs))
