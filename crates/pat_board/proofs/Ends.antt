-- How the configuration of a machine ends its run, where no thread is out.
use Rattle.std.proofs.Common.{◌≡◌, ℕ, zero, suc, ◌+◌, ◌<◌, ◌≤◌, nat_eq, [], ◌∷◌, length, Option, Some, None, Bool, true, false, refl, sym, ap, ◌∙◌, subst, arith, ⊎_elim, ◌⊎◌, inl, inr}
use Rattle.std.specs.Map.{lookup}
use Rattle.std.specs.Prelude.{option_and_then}
use Rattle.std.proofs.lemmas.Bool.{cases_lt}
use Rattle.pat_semantics_spec.specs.Programs.{Program}
use Rattle.pat_semantics_spec.specs.Configs.{Config}
use Rattle.pat_semantics_spec.specs.Steps.{Act, ActLocal, ActNew, ActSend, ActSpawn, ActPrint, ActEnd, ActFree, ActReceive, Step, step, thread_step}
use Rattle.pat_semantics_spec.specs.Runs.{Outcome, EndDone, EndWaiting, EndFull, EndBudget, step_count, outcome, can_step_without_sending}
use Rattle.pat_semantics_laws.specs.Laws.{IsEnabled, IsFull, Ends, OtherTestIsExact, OutcomeIsExact}
use Rattle.pat_machine_spec.specs.Opens.{IsOpen}
use Rattle.pat_machine_spec.specs.Lendings.{Out, NoneOut, SomeOut, allowances}
use Rattle.pat_machine_laws.proofs.Runs.{limited_now}
use Rattle.pat_machine_laws.proofs.Endings.{open_no_full}
use Rattle.pat_machine.specs.declared.job.Outcome.{Outcome as CodeOutcome}
use Rattle.pat_machine.specs.declared.job.Outcome.TheVariants as ending
use Rattle.pat_machine.specs.Shown.{Shown, program_of, entries_of, IsMachine}
use Rattle.pat_machine.specs.Gives.{MayTake, OutcomeGives, outcome_view}
use Rattle.pat_board.specs.Advances.{EndsSo}
use Rattle.pat_board.specs.Advancing.{MayAdvance}

send_or_not : (a : Act) → (a ≡ ActSend) ⊎ (a ≡ ActSend → ⊥)
send_or_not ActSend = inl refl
send_or_not ActLocal = inr (λ h. cc)
send_or_not ActNew = inr (λ h. cc)
send_or_not ActSpawn = inr (λ h. cc)
send_or_not ActPrint = inr (λ h. cc)
send_or_not ActEnd = inr (λ h. cc)
send_or_not ActFree = inr (λ h. cc)
send_or_not (ActReceive k) = inr (λ h. cc)

not_both : (b : Bool) → b ≡ false → b ≡ true → ⊥
not_both b isn is = let clash : false ≡ true = sym isn ∙ is in cc

-- where a step is enabled and it isn't full, one is open
some_open : (p : Program) (c : Config) (limit : ℕ) → OtherTestIsExact → length c.messages ≤ limit → (k : Step) × IsEnabled p c k → (IsFull p c (Some limit) → ⊥) → (k : Step) × IsOpen p c limit k
some_open p c limit others within (k, enabled) room =
    ⊎_elim
    (λ less. (k, (enabled, λ sends. less)))
    (λ full.
    let same : limit ≡ length c.messages = omega arith in
    go (can_step_without_sending p c) refl (ap (λ n. Some n) same))
    (cases_lt (length c.messages) limit)
  where
    go : (b : Bool) → can_step_without_sending p c ≡ b → Some limit ≡ Some (length c.messages) → (k : Step) × IsOpen p c limit k
    go true is met = let other = (others p c).0 is in (other.0, (other.1, λ sends. absurd (other.2 sends)))
    go false is met =
        absurd (room (met, λ j e. ⊎_elim (λ sends. sends) (λ other. absurd (not_both (can_step_without_sending p c) is ((others p c).1 (j, e, other)))) (send_or_not j.act)))

module _ (exact : OutcomeIsExact) (others : OtherTestIsExact) (m : Shown) (facts : IsMachine m) where
  abbrev so : Outcome → Type 0
  so o = outcome (program_of m) m.config (step_count (entries_of m)) m.named.budget (Some m.named.limit) ≡ Some o

  ends : (o : Outcome) → so o → Ends (program_of m) m.config (step_count (entries_of m)) m.named.budget (Some m.named.limit) o
  ends o is = (exact (program_of m) m.config (step_count (entries_of m)) m.named.budget (Some m.named.limit) o).0 is

  within : length m.config.messages ≤ m.named.limit
  within = limited_now (program_of m) m.named.limit m.config (entries_of m) facts.limited facts.replayed

  -- the steps are spent, and one is open
  pub spent_open : so EndBudget → MayAdvance m None
  spent_open is = let e = ends EndBudget is in some_open (program_of m) m.config m.named.limit others within e.0 e.1

  done_none : so EndDone → MayAdvance m None → ⊥
  done_none is (k, may) =
      let threads = ends EndDone is in
      let gone : step (program_of m) m.config k ≡ None = ap (λ ts. option_and_then (λ s. thread_step (program_of m) m.config k.thread s k.act) (lookup (nat_eq k.thread) ts)) threads in
      let at = may.0.1 in
      cc

  waiting_none : so EndWaiting → MayAdvance m None → ⊥
  waiting_none is (k, may) = let off = (ends EndWaiting is).1 k in let at = may.0.1 in cc

  full_none : so EndFull → MayAdvance m None → ⊥
  full_none is (k, may) = open_no_full (program_of m) m.config m.named.limit k may (ends EndFull is).1

  -- it ends for another reason, and none is open
  pub other_none : (o : CodeOutcome) → (o ≡ ending.Budget → ⊥) → so (outcome_view o) → MayAdvance m None → ⊥
  other_none ending.Done other is = done_none is
  other_none ending.Waiting other is = waiting_none is
  other_none ending.Full other is = full_none is
  other_none ending.Budget other is = absurd (other refl)

-- where no thread is out, no steps are
pub none_lent : (out : Out) → NoneOut out → allowances out ≡ 0
none_lent [] none = refl
none_lent (None ∷ out) none = let rest = none_lent out (λ t. none (suc t)) in omega arith
none_lent (Some n ∷ out) none = let no = none zero in cc

module _ (m : Shown) (none : NoneOut m.out) (facts : IsMachine m) where
  -- all steps are in the history or left
  pub counts : step_count (entries_of m) + m.left ≡ m.named.budget
  counts = let counted = facts.counted in let zero = none_lent m.out none in omega arith

  -- where it ends since all steps are spent, one is open, and none is left
  pub spent : OutcomeIsExact → OtherTestIsExact → OutcomeGives m (Some ending.Budget) → MayAdvance m None × (m.left ≡ 0)
  spent exact others h =
      let all = counts in
      let e = ends exact others m facts EndBudget h.2 in
      let same = e.2 in
      (spent_open exact others m facts h.2, omega arith)

  -- which thread may be taken is which has an open step
  pub may_take : (t : ℕ) → MayAdvance m (Some t) → MayTake m t
  may_take t may = (none t, may)

  pub ends_so : (o : Option CodeOutcome) → OutcomeGives m o → EndsSo m.named m.history m.config o
  ends_so None h = record {
    goes_on = (
      λ _. ⊎_elim
          (λ (some : SomeOut m.out). let no = none some.0 in let is = some.2 in absurd (let clash : None ≡ Some some.1 = sym no ∙ is in cc))
          (λ (more : (0 < m.left) × ((t : ℕ) × MayTake m t)).
          let all = counts in
          let left = more.0 in
          ((record { thread = more.1.0; act = more.1.1.1.0 }, more.1.1.1.1), omega arith))
          h,
      λ _. refl,
    );
    ends = λ x is. cc;
  }
  ends_so (Some o) h = record {
    goes_on = (
      λ is. cc,
      λ w. absurd
          (⊎_elim
          (λ (spent : m.left ≡ 0). let all = counts in let less = w.1 in omega arith)
          (λ (still : (t : ℕ) → MayTake m t → ⊥). still w.0.0.thread (none w.0.0.thread, (w.0.0.act, w.0.1)))
          h.1),
    );
    ends = λ x is. subst (λ (x : CodeOutcome). outcome (program_of m) m.config (step_count (entries_of m)) m.named.budget (Some m.named.limit) ≡ Some (outcome_view x)) (let same : o ≡ x = cc in same) h.2;
  }
