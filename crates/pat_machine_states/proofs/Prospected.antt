-- How the threads stand, by the tests.
use Rattle.std.proofs.Common.{◌≡◌, ℕ, Bool, true, false, ◌&&◌, ◌||◌, nat_eq, List, [], length, Option, Some, None, refl, ap, ◌∙◌}
use Rattle.std.specs.List.{list_any}
use Rattle.pat_semantics_spec.specs.Programs.{Program}
use Rattle.std.proofs.lemmas.Bool.{eqb-false, or_left, or_right}
use Rattle.pat_semantics_spec.specs.Configs.{Thread, Config}
use Rattle.pat_semantics_spec.specs.Steps.{Step, step}
use Rattle.pat_semantics_spec.specs.Runs.{can_step_thread}
use Rattle.pat_semantics_laws.specs.Laws.{IsEnabled}
use Rattle.pat_semantics_laws.proofs.Lists.{any_some, clash}
use Rattle.pat_semantics_laws.proofs.Inversion.{step_of}
use Rattle.pat_semantics_laws.proofs.Enabled.{some_key, step_found, found_step}
use Rattle.pat_machine_spec.specs.Opens.{IsOpen, has_space, can_go_on}
use Rattle.pat_machine_laws.proofs.Opens.{open_exact}
use Rattle.pat_machine_laws.specs.wakeups.Senders.{AreCandidates}
use Rattle.pat_machine_laws.proofs.Senders.{open_in_both, enabled_in_both}

-- threads are left where the list isn't empty
pub not_empty : (ts us : List (ℕ × Thread)) → ts ≡ us → nat_eq (length ts) 0 ≡ false → us ≡ [] → ⊥
not_empty ts us same some none = eqb-false (length ts) 0 some (ap (λ l. length l) (same ∙ none))

module _ (p : Program) (c : Config) (limit : ℕ) where
  some_open : list_any (λ e. can_go_on p c limit e.0) c.threads ≡ true → (k : Step) × IsOpen p c limit k
  some_open h =
      let e = any_some (λ e. can_go_on p c limit e.0) c.threads h in
      let a = (open_exact p c limit e.0.0).0 e.1 in
      (record { thread = e.0.0; act = a.0 }, a.1)

  none_open : list_any (λ e. can_go_on p c limit e.0) c.threads ≡ false → (k : Step) → IsOpen p c limit k → ⊥
  none_open h k may =
      let o = step_of p c k may.0.0 may.0.1 in
      clash (some_key (can_go_on p c limit) c.threads k.thread o.thread o.there ((open_exact p c limit k.thread).1 (k.act, may))) h

  stuck : list_any (λ e. can_step_thread p c e.0) c.threads ≡ false → (k : Step) → step p c k ≡ None
  stuck h k = go (step p c k) refl
    where
      go : (o : Option Config) → step p c k ≡ o → o ≡ None
      go None is = refl
      go (Some d) is = absurd (clash (step_found p c d k is) h)

  enabled : list_any (λ e. can_step_thread p c e.0) c.threads ≡ true → (k : Step) × IsEnabled p c k
  enabled h = found_step p c h

-- ---- by the threads that may step, with those apart that are about to send

module _ (p : Program) (c : Config) (limit : ℕ) (ts us : List ℕ) (covers : AreCandidates p c ts us) where
  abbrev opens : ℕ → Bool
  opens = can_go_on p c limit

  pub other_opens : list_any opens ts ≡ true → (k : Step) × IsOpen p c limit k
  other_opens h = some_open p c limit (open_in_both p c limit ts us covers ∙ or_left (list_any opens ts) (has_space c limit && list_any opens us) h)

  pub sender_opens : (has_space c limit && list_any opens us) ≡ true → (k : Step) × IsOpen p c limit k
  sender_opens h = some_open p c limit (open_in_both p c limit ts us covers ∙ or_right (list_any opens ts) (has_space c limit && list_any opens us) h)

  pub closed : list_any opens ts ≡ false → (has_space c limit && list_any opens us) ≡ false → (k : Step) → IsOpen p c limit k → ⊥
  closed h g = none_open p c limit (open_in_both p c limit ts us covers ∙ ap (λ b. b || (has_space c limit && list_any opens us)) h ∙ g)

  pub other_steps : list_any (can_step_thread p c) ts ≡ true → (k : Step) × IsEnabled p c k
  other_steps h = enabled p c limit (enabled_in_both p c ts us covers ∙ or_left (list_any (can_step_thread p c) ts) (list_any (can_step_thread p c) us) h)

  pub sender_steps : list_any (can_step_thread p c) us ≡ true → (k : Step) × IsEnabled p c k
  sender_steps h = enabled p c limit (enabled_in_both p c ts us covers ∙ or_right (list_any (can_step_thread p c) ts) (list_any (can_step_thread p c) us) h)

  pub none_steps : list_any (can_step_thread p c) ts ≡ false → list_any (can_step_thread p c) us ≡ false → (k : Step) → step p c k ≡ None
  none_steps h g = stuck p c limit (enabled_in_both p c ts us covers ∙ ap (λ b. b || list_any (can_step_thread p c) us) h ∙ g)
