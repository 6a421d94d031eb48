-- The thread whose turn it is, is ready and comes first.
use Rattle.std.proofs.Common.{◌≡◌, ℕ, ◌≤◌, Bool, true, ◌&&◌, Option, Some, None, refl, ap, sym, ◌∙◌, ⊎_elim, inl, inr}
use Rattle.std.specs.Prelude.{option_map, find}
use Rattle.std.specs.Option.{option_or}
use Rattle.std.proofs.lemmas.Bool.{and_parts, and_from, cases_lt, ltb-true, lt-ltb}
use Rattle.pat_semantics_spec.specs.Programs.{Program}
use Rattle.pat_semantics_spec.specs.Configs.{Thread, Config}
use Rattle.pat_semantics_spec.specs.Orders.{IsOrdered}
use Rattle.pat_semantics_laws.proofs.Ascending.{found_is_in}
use Rattle.pat_semantics_laws.proofs.Leasts.{first_thread}
use Rattle.pat_machine_spec.specs.Lendings.{Out}
use Rattle.pat_machine_spec.specs.Turns.{IsReady, IsTurn, is_above, is_ready, ready_above, turn, ComesFirst}
use Rattle.pat_machine_laws.proofs.Ready.{ready_there, passes_ready, turn_ready, none_above}

module _ (p : Program) (c : Config) (limit : ℕ) (out : Out) (o : IsOrdered c) where
  abbrev test : Option ℕ → ℕ → Bool
  test last t = is_above last t && is_ready p c limit out t

  both : (last : Option ℕ) (u : ℕ) → is_above last u ≡ true → IsReady p c limit out u → test last u ≡ true
  both last u above ready = and_from (is_above last u) (is_ready p c limit out u) above (passes_ready p c limit out u ready)

  -- of those above it the one that is found is the least
  least_above : (last : Option ℕ) (t u : ℕ) → ready_above p c limit out last ≡ Some t → is_above last u ≡ true → IsReady p c limit out u → t ≤ u
  least_above last t u found above ready =
      let s = ready_there p c limit out u ready in
      first_thread c (test last) t u s.0 o found s.1 (both last u above ready)

  found_above : (last : Option ℕ) (t : ℕ) (r : Option (ℕ × Thread)) → find (λ e. test last e.0) c.threads ≡ r → option_map (λ e. e.0) r ≡ Some t → is_above last t ≡ true
  found_above last t None h is = cc
  found_above last t (Some e) h is =
      let number : e.0 ≡ t = cc in
      ap (is_above last) (sym number) ∙ (and_parts (is_above last e.0) (is_ready p c limit out e.0) (found_is_in (λ (e : ℕ × Thread). test last e.0) c.threads e h).1).0

  not_above : (l u : ℕ) → (is_above (Some l) u ≡ true → ⊥) → u ≤ l
  not_above l u below = ⊎_elim (λ less. absurd (below (lt-ltb l u less))) (λ past. past) (cases_lt l u)

  comes_first : (last : Option ℕ) (t u : ℕ) (r : Option ℕ) → ready_above p c limit out last ≡ r → option_or r (ready_above p c limit out None) ≡ Some t → IsReady p c limit out t → IsReady p c limit out u → ComesFirst last t u
  comes_first None t u None is h mine ready = least_above None t u h refl ready
  comes_first None t u (Some n) is h mine ready = least_above None t u (is ∙ h) refl ready
  comes_first (Some l) t u None is h mine ready =
      let low : (v : ℕ) → IsReady p c limit out v → v ≤ l = λ v r. not_above l v (λ above. none_above p c limit out (Some l) v (find (λ e. test (Some l) e.0) c.threads) refl is above r) in
      inr (low t mine, low u ready, least_above None t u h refl ready)
  comes_first (Some l) t u (Some n) is h mine ready =
      inl (
        ltb-true l t (found_above (Some l) t (find (λ e. test (Some l) e.0) c.threads) refl (is ∙ h)),
        λ above. least_above (Some l) t u (is ∙ h) (lt-ltb l u above) ready,
      )

  -- it is the turn of the thread that is found
  pub turn_is : (last : Option ℕ) (t : ℕ) → turn p c limit out last ≡ Some t → IsTurn p c limit out last t
  turn_is last t h =
      let mine = (turn_ready p c limit out last t h).0 in
      record { ready = mine; first = λ u ready. comes_first last t u (ready_above p c limit out last) refl h mine ready }
