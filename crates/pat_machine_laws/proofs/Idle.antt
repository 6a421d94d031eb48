-- A commit has no step just where no step of its thread is open.
use Rattle.std.proofs.Common.{◌≡◌, ℕ, zero, suc, ◌<◌, length, Option, Some, None, refl, sym, ap, ◌∙◌, subst, arith}
use Rattle.std.specs.Prelude.{option_map}
use Rattle.pat_semantics_spec.specs.Programs.{Program}
use Rattle.pat_semantics_spec.specs.Configs.{Config, with_thread}
use Rattle.pat_semantics_spec.specs.Steps.{Act, ActLocal}
use Rattle.pat_semantics_spec.specs.Runs.{Entry, shared_step, entry_steps}
use Rattle.pat_machine_spec.specs.Opens.{IsOpen, IsStill}
use Rattle.pat_machine_spec.specs.Commits.{local_of, locally, IsCommit}
use Rattle.pat_machine_laws.proofs.Locals.{local_there, with_same, first_local}
use Rattle.pat_machine_laws.proofs.Runs.{steps_length}

module _ (p : Program) (allowance limit : ℕ) (c d : Config) (e : Entry) (j : IsCommit p allowance limit c e d) (some : 0 < allowance) where
  -- no local step leaves the configuration
  as_it_was : e.local_steps ≡ 0 → with_thread c e.thread j.middle ≡ c
  as_it_was none =
      let taken : Some j.kept ≡ Some j.middle = ap (λ k. locally p k j.kept) (sym none) ∙ j.local.taken in
      let same : j.kept ≡ j.middle = cc in
      ap (with_thread c e.thread) (sym same) ∙ with_same c e.thread j.kept j.there

  no_shared : (a : Option Act) → length (shared_step e.thread a) ≡ 0 → a ≡ None
  no_shared None h = refl
  no_shared (Some a) h = absurd (omega arith)

  pub idle_still : length (entry_steps e) ≡ 0 → IsStill p c limit e.thread
  idle_still none =
      let whole = steps_length p allowance limit c d e j in
      let local : e.local_steps ≡ 0 = omega arith in
      let shared = no_shared e.shared (omega arith) in
      subst (λ x. IsStill p x limit e.thread) (as_it_was local) ((j.shared (omega arith)).none shared)

  -- the first step of the entry was open
  local_open : (k : ℕ) → e.local_steps ≡ k → 0 < k → IsOpen p c limit (local_of e.thread)
  local_open zero is more = absurd (omega arith)
  local_open (suc k) is more =
      let f = first_local p k j.kept j.middle (ap (λ n. locally p n j.kept) (sym is) ∙ j.local.taken) in
      ((with_thread c e.thread f.0, local_there p c e.thread j.kept j.there ∙ ap (option_map (with_thread c e.thread)) f.1), λ same. cc)

  shared_open : (a : Option Act) → e.shared ≡ a → e.local_steps ≡ 0 → 0 < length (shared_step e.thread a) → (b : Act) × IsOpen p c limit (record { thread = e.thread; act = b })
  shared_open None is none more = absurd (omega arith)
  shared_open (Some b) is none more =
      (b, subst (λ x. IsOpen p x limit (record { thread = e.thread; act = b })) (as_it_was none) ((j.shared (omega arith)).allowed b is))

  pub step_open : 0 < length (entry_steps e) → (b : Act) × IsOpen p c limit (record { thread = e.thread; act = b })
  step_open more = go e.local_steps refl
    where
      go : (k : ℕ) → e.local_steps ≡ k → (b : Act) × IsOpen p c limit (record { thread = e.thread; act = b })
      go zero is = let whole = steps_length p allowance limit c d e j in shared_open e.shared refl is (omega arith)
      go (suc k) is = (ActLocal, local_open (suc k) is (omega arith))

  -- no step was open, so the entry has none
  pub still_idle : IsStill p c limit e.thread → length (entry_steps e) ≡ 0
  still_idle still = none (length (entry_steps e)) refl
    where
      none : (n : ℕ) → length (entry_steps e) ≡ n → n ≡ 0
      none zero is = refl
      none (suc n) is = let b = step_open (omega arith) in absurd (still b.0 b.1)
