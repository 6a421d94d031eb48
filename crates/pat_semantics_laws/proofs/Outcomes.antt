-- The outcome says how a run ends.
use Rattle.std.proofs.Common.{◌≡◌, ℕ, Bool, true, false, not, ◌&&◌, nat_eq, if◌then◌else◌, List, [], ◌∷◌, length, Option, Some, None, refl, sym, ap, ◌∙◌, subst, ◌⊎◌, inl, inr, ⊎_elim, option_and_then}
use Rattle.std.proofs.lemmas.Bool.{and_from, and_parts, eq-eqb, eqb-true, cond-true, cond-false, false_from_ne_true}
use Rattle.pat_semantics_spec.specs.Programs.{Program}
use Rattle.pat_semantics_spec.specs.Configs.{Thread, Config}
use Rattle.pat_semantics_spec.specs.Steps.{Act, ActLocal, ActNew, ActSend, ActSpawn, ActPrint, ActEnd, ActFree, ActReceive, Step, step, thread_step}
use Rattle.pat_semantics_spec.specs.Runs.{can_step, can_step_without_sending, has_threads, is_at_limit, Outcome, EndDone, EndWaiting, EndFull, EndBudget, outcome}
use Rattle.pat_semantics_laws.specs.Laws.{IsEnabled, IsFull, Ends}
use Rattle.pat_semantics_laws.proofs.Lists.{clash, not_true}
use Rattle.pat_semantics_laws.proofs.Enabled.{step_found, found_step, other_found, found_other}
use Rattle.std.specs.Map.{lookup}

-- ---- the tests

no_threads : (ts : List (ℕ × Thread)) → has_threads ts ≡ false → ts ≡ []
no_threads [] h = refl
no_threads (e ∷ es) h = cc

some_threads : (ts : List (ℕ × Thread)) → (ts ≡ [] → ⊥) → has_threads ts ≡ true
some_threads [] h = absurd (h refl)
some_threads (e ∷ es) h = refl

are_threads : (ts : List (ℕ × Thread)) → has_threads ts ≡ true → ts ≡ [] → ⊥
are_threads [] h e = cc
are_threads (x ∷ xs) h e = cc

at_limit : (limit : Option ℕ) (n : ℕ) → is_at_limit limit n ≡ true → limit ≡ Some n
at_limit None n h = cc
at_limit (Some m) n h = ap (λ k. Some k) (eqb-true m n h)

limit_at : (limit : Option ℕ) (n : ℕ) → limit ≡ Some n → is_at_limit limit n ≡ true
limit_at None n h = cc
limit_at (Some m) n h = let same : m ≡ n = cc in eq-eqb m n same

send_or_not : (a : Act) → (a ≡ ActSend) ⊎ (a ≡ ActSend → ⊥)
send_or_not ActSend = inl refl
send_or_not ActLocal = inr (λ h. cc)
send_or_not ActNew = inr (λ h. cc)
send_or_not ActSpawn = inr (λ h. cc)
send_or_not ActPrint = inr (λ h. cc)
send_or_not ActEnd = inr (λ h. cc)
send_or_not ActFree = inr (λ h. cc)
send_or_not (ActReceive k) = inr (λ h. cc)

step_or_none : (p : Program) (c : Config) (k : Step) → can_step p c ≡ false → step p c k ≡ None
step_or_none p c k off = go (step p c k) refl
  where
    go : (o : Option Config) → step p c k ≡ o → o ≡ None
    go None e = refl
    go (Some d) e = absurd (clash (step_found p c d k e) off)

-- a thread stands where a step is enabled
threads_step : (p : Program) (c : Config) → can_step p c ≡ true → has_threads c.threads ≡ true
threads_step p c h = go c.threads refl
  where
    go : (ts : List (ℕ × Thread)) → c.threads ≡ ts → has_threads ts ≡ true
    go [] e = absurd (none (found_step p c h) e)
      where
        none : (k : Step) × IsEnabled p c k → c.threads ≡ [] → ⊥
        none (k, (d, at)) e =
            let gone : step p c k ≡ None = ap (λ ts. option_and_then (λ s. thread_step p c k.thread s k.act) (lookup (nat_eq k.thread) ts)) e in
            some_none (sym gone ∙ at)
          where
            some_none : {A : Type 0} {x : A} → None ≡ Some x → ⊥
            some_none h = cc
    go (x ∷ xs) e = refl

-- the test of the limit and of other steps says whether the limit is met
full_is : (p : Program) (c : Config) (limit : Option ℕ) → (is_at_limit limit (length c.messages) && not (can_step_without_sending p c)) ≡ true → IsFull p c limit
full_is p c limit h =
    let both = and_parts (is_at_limit limit (length c.messages)) (not (can_step_without_sending p c)) h in
    (at_limit limit (length c.messages) both.0, λ k e. ⊎_elim (λ w. w) (λ other. absurd (clash (other_found p c e.0 k e.1 other) (not_true (can_step_without_sending p c) both.1))) (send_or_not k.act))

is_full : (p : Program) (c : Config) (limit : Option ℕ) → IsFull p c limit → (is_at_limit limit (length c.messages) && not (can_step_without_sending p c)) ≡ true
is_full p c limit f =
    and_from (is_at_limit limit (length c.messages)) (not (can_step_without_sending p c)) (limit_at limit (length c.messages) f.0)
    (ap not (false_from_ne_true (can_step_without_sending p c) (λ h. let k = found_other p c h in k.2 (f.1 k.0 k.1))))

-- ---- the outcome

module _ (p : Program) (c : Config) (steps budget : ℕ) (limit : Option ℕ) where
  abbrev test : Bool
  test = is_at_limit limit (length c.messages) && not (can_step_without_sending p c)

  abbrev last : Option Outcome
  last = if nat_eq steps budget then Some EndBudget else None

  -- by the four tests in order
  pub ends_so : (o : Outcome) → outcome p c steps budget limit ≡ Some o → Ends p c steps budget limit o
  ends_so o h =
      (elim (has_threads c.threads) as (λ a. has_threads c.threads ≡ a → (if not a then Some EndDone else if not (can_step p c) then Some EndWaiting else if test then Some EndFull else last) ≡ Some o → Ends p c steps budget limit o) [
        | false ↦ λ q w. ended EndDone o w (no_threads c.threads q)
        | true ↦ λ q w.
            (elim (can_step p c) as (λ b. can_step p c ≡ b → (if not b then Some EndWaiting else if test then Some EndFull else last) ≡ Some o → Ends p c steps budget limit o) [
              | false ↦ λ r v. ended EndWaiting o v (are_threads c.threads q, λ k. step_or_none p c k r)
              | true ↦ λ r v.
                  (elim test as (λ e. test ≡ e → (if e then Some EndFull else last) ≡ Some o → Ends p c steps budget limit o) [
                    | true ↦ λ f u. ended EndFull o u (found_step p c r, full_is p c limit f)
                    | false ↦ λ f u.
                        (elim (nat_eq steps budget) as (λ n. nat_eq steps budget ≡ n → (if n then Some EndBudget else None) ≡ Some o → Ends p c steps budget limit o) [
                          | true ↦ λ n x. ended EndBudget o x (found_step p c r, (λ full. clash (is_full p c limit full) f), eqb-true steps budget n)
                          | false ↦ λ n x. cc
                        ]) refl u
                  ]) refl v
            ]) refl w
      ]) refl h
    where
      ended : (e o : Outcome) → Some e ≡ Some o → Ends p c steps budget limit e → Ends p c steps budget limit o
      ended e o w h = let same : e ≡ o = cc in subst (Ends p c steps budget limit) same h

  abbrev after_done : Option Outcome
  after_done = if not (can_step p c) then Some EndWaiting else if test then Some EndFull else last

  abbrev after_waiting : Option Outcome
  after_waiting = if test then Some EndFull else last

  goes_on : can_step p c ≡ true → outcome p c steps budget limit ≡ after_waiting
  goes_on h =
      cond-false (not (has_threads c.threads)) (Some EndDone) after_done (ap not (threads_step p c h))
      ∙ cond-false (not (can_step p c)) (Some EndWaiting) after_waiting (ap not h)

  enabled_goes : (k : Step) × IsEnabled p c k → can_step p c ≡ true
  enabled_goes (k, (d, at)) = step_found p c d k at

  pub so_ends : (o : Outcome) → Ends p c steps budget limit o → outcome p c steps budget limit ≡ Some o
  so_ends EndDone h = cond-true (not (has_threads c.threads)) (Some EndDone) after_done (ap (λ ts. not (has_threads ts)) h)
  so_ends EndWaiting h =
      cond-false (not (has_threads c.threads)) (Some EndDone) after_done (ap not (some_threads c.threads h.0))
      ∙ cond-true (not (can_step p c)) (Some EndWaiting) after_waiting
      (ap not (false_from_ne_true (can_step p c) (λ on. let k = found_step p c on in some_none (sym (h.1 k.0) ∙ k.1.1))))
    where
      some_none : {A : Type 0} {x : A} → None ≡ Some x → ⊥
      some_none h = cc
  so_ends EndFull h = goes_on (enabled_goes h.0) ∙ cond-true test (Some EndFull) last (is_full p c limit h.1)
  so_ends EndBudget h =
      goes_on (enabled_goes h.0)
      ∙ cond-false test (Some EndFull) last (false_from_ne_true test (λ f. h.1 (full_is p c limit f)))
      ∙ cond-true (nat_eq steps budget) (Some EndBudget) None (eq-eqb steps budget h.2)
