-- All turns, one after another.
use Rattle.std.proofs.Common.{◌≡◌, ℕ, zero, suc, ◌-◌, ◌<◌, ◌≤◌, true, false, not, ◌&&◌, nat_eq, nat_lt, if◌then◌else◌, List, [], ◌∷◌, length, Option, Some, None, refl, sym, ap, ◌∙◌, subst, arith, ◌⊎◌, inl, inr, ⊎_elim}
use Rattle.std.specs.Prelude.{option_and_then, min}
use Rattle.std.specs.List.{AllByRecursion}
use Rattle.std.proofs.lemmas.Bool.{ltb-true, ltb-false, cond-true, cond-false, cases_Bool, eq-eqb}
use Rattle.pat_semantics_spec.specs.Programs.{Program}
use Rattle.pat_semantics_spec.specs.Configs.{Thread, Config, thread_at}
use Rattle.pat_semantics_spec.specs.Orders.{IsOrdered}
use Rattle.pat_semantics_spec.specs.Steps.{Step}
use Rattle.pat_semantics_spec.specs.Runs.{Entry, IsHistory, IsSharedOrNone, entry_steps, entry_from, run_from, replay_from, step_count, can_step, can_step_thread, can_step_without_sending, has_threads, is_at_limit, Outcome, EndDone, EndWaiting, EndFull, EndBudget, outcome}
use Rattle.pat_semantics_laws.proofs.Lists.{clash}
use Rattle.pat_semantics_laws.proofs.Enabled.{thread_exact}
use Rattle.pat_semantics_laws.proofs.Inversion.{step_of}
use Rattle.pat_semantics_laws.proofs.Ordered.{run_keeps_order}
use Rattle.pat_machine_spec.specs.Opens.{IsStill}
use Rattle.pat_machine_spec.specs.Commits.{IsCommit}
use Rattle.pat_machine_laws.proofs.Runs.{commit_runs, commit_within, commit_shared}
use Rattle.pat_machine_laws.proofs.Idle.{idle_still}
use Rattle.pat_checkpoint_spec.specs.Turns.{turn_of, turn_at, next_thread, turns_by, turns_within, turns_from, turns}
use Rattle.pat_checkpoint_laws.specs.resuming.Laws.{TurnTakes, TurnsReach}
use Rattle.pat_checkpoint_laws.proofs.Commits.{turn_commits}
use Rattle.pat_checkpoint_laws.proofs.Nexts.{next_able, none_able}

-- ---- one turn

turn_thread : (p : Program) (left : ℕ) (c : Config) (t : ℕ) → (turn_at p left c t).entry.thread ≡ t
turn_thread p left c t = go (thread_at c t)
  where
    go : (o : Option Thread) → (turn_of p (min 256 left) c t o).entry.thread ≡ t
    go None = refl
    go (Some s) = refl

turn_worker : (p : Program) (left : ℕ) (c : Config) (t : ℕ) → (turn_at p left c t).entry.worker ≡ 0
turn_worker p left c t = go (thread_at c t)
  where
    go : (o : Option Thread) → (turn_of p (min 256 left) c t o).entry.worker ≡ 0
    go None = refl
    go (Some s) = refl

entry_runs : (p : Program) (c : Config) (ks : List Step) → 1 ≤ length ks → entry_from p c ks ≡ run_from p c ks
entry_runs p c [] h = absurd (omega arith)
entry_runs p c (k ∷ ks) h = refl

-- a turn of a thread that can take a step, with what it says besides
record Taken (p : Program) (left : ℕ) (c : Config) (t : ℕ) : Type 0 where
  pub takes : TurnTakes p left c t
  pub shared : IsSharedOrNone (turn_at p left c t).entry.shared

taken_turn : (p : Program) (c : Config) (left t : ℕ) → IsOrdered c → 0 < left → can_step_thread p c t ≡ true → Taken p left c t
taken_turn p c left t order some can =
    let a = (thread_exact p c t).0 can in
    let o = step_of p c (record { thread = t; act = a.0 }) a.1.0 a.1.1 in
    let limit = suc (length c.messages) in
    let turn = turn_at p left c t in
    let j : IsCommit p (min 256 left) limit c turn.entry turn.after = turn_commits p c t left limit o.thread order o.there (omega arith) in
    let ran : run_from p c (entry_steps turn.entry) ≡ Some turn.after = commit_runs p (min 256 left) limit c turn.after turn.entry j in
    let within : length (entry_steps turn.entry) ≤ min 256 left = commit_within p (min 256 left) limit c turn.after turn.entry j in
    let one : 1 ≤ length (entry_steps turn.entry) =
    at_least (length (entry_steps turn.entry)) (λ none.
    let still = idle_still p (min 256 left) limit c turn.after turn.entry j (omega arith) none in
    subst (IsStill p c limit) (turn_thread p left c t) still a.0 (a.1, λ sends. omega arith)) in
    record {
      takes = record {
        some = one;
        within = omega arith;
        leads = entry_runs p c (entry_steps turn.entry) one ∙ ran;
        ordered = run_keeps_order p (entry_steps turn.entry) c turn.after order ran;
      };
      shared = commit_shared p (min 256 left) limit c turn.after turn.entry j;
    }
  where
    at_least : (n : ℕ) → (n ≡ 0 → ⊥) → 1 ≤ n
    at_least zero h = absurd (h refl)
    at_least (suc n) h = omega arith

pub turn_takes : (p : Program) (c : Config) (left t : ℕ) → IsOrdered c → 0 < left → can_step_thread p c t ≡ true → TurnTakes p left c t
turn_takes p c left t order some can = (taken_turn p c left t order some can).takes

-- ---- how many turns are looked at makes no difference

pub fuel_same : (p : Program) (f g : ℕ) (c : Config) (left : ℕ) (last : Option ℕ) → IsOrdered c → left ≤ f → left ≤ g → turns_within f p c left last ≡ turns_within g p c left last
fuel_same p zero zero c left last order lf lg = refl
fuel_same p zero (suc g) c left last order lf lg =
    let none : left ≡ 0 = omega arith in
    sym (cond-false (nat_lt 0 left) (turns_by (λ d rest t. turns_within g p d rest (Some t)) (turn_at p left c) left (next_thread p c last)) [] (ap (nat_lt 0) none))
fuel_same p (suc f) zero c left last order lf lg =
    let none : left ≡ 0 = omega arith in
    cond-false (nat_lt 0 left) (turns_by (λ d rest t. turns_within f p d rest (Some t)) (turn_at p left c) left (next_thread p c last)) [] (ap (nat_lt 0) none)
fuel_same p (suc f) (suc g) c left last order lf lg =
    ⊎_elim
    (λ some. ap (λ es. if nat_lt 0 left then es else []) (go (ltb-true 0 left some) (next_thread p c last) refl (λ d rest t. fuel_same p f g d rest (Some t))))
    (λ none.
    cond-false (nat_lt 0 left) (turns_by (λ d rest t. turns_within f p d rest (Some t)) (turn_at p left c) left (next_thread p c last)) [] none
    ∙ sym (cond-false (nat_lt 0 left) (turns_by (λ d rest t. turns_within g p d rest (Some t)) (turn_at p left c) left (next_thread p c last)) [] none))
    (cases_Bool (nat_lt 0 left))
  where
    go : 0 < left → (o : Option ℕ) → next_thread p c last ≡ o → ((d : Config) (rest t : ℕ) → IsOrdered d → rest ≤ f → rest ≤ g → turns_within f p d rest (Some t) ≡ turns_within g p d rest (Some t)) → turns_by (λ d rest t. turns_within f p d rest (Some t)) (turn_at p left c) left o ≡ turns_by (λ d rest t. turns_within g p d rest (Some t)) (turn_at p left c) left o
    go some None is more = refl
    go some (Some t) is more =
        let k = turn_takes p c left t order some (next_able p c last t is) in
        let one = k.some in
        ap (λ es. (turn_at p left c t).entry ∷ es)
        (more (turn_at p left c t).after (left - length (entry_steps (turn_at p left c t).entry)) t k.ordered (omega arith) (omega arith))

-- the turn of the next thread comes first, and then those after it
pub turns_unfold : (p : Program) (c : Config) (left : ℕ) (last : Option ℕ) → IsOrdered c → turns_from p c left last ≡ (if nat_lt 0 left then turns_by (λ d rest t. turns_from p d rest (Some t)) (turn_at p left c) left (next_thread p c last) else [])
turns_unfold p c zero last order = refl
turns_unfold p c (suc left) last order = ap (λ es. if nat_lt 0 (suc left) then es else []) (go (next_thread p c last) refl)
  where
    go : (o : Option ℕ) → next_thread p c last ≡ o → turns_by (λ d rest t. turns_within left p d rest (Some t)) (turn_at p (suc left) c) (suc left) o ≡ turns_by (λ d rest t. turns_from p d rest (Some t)) (turn_at p (suc left) c) (suc left) o
    go None is = refl
    go (Some t) is =
        let k = turn_takes p c (suc left) t order (omega arith) (next_able p c last t is) in
        let one = k.some in
        let rest = suc left - length (entry_steps (turn_at p (suc left) c t).entry) in
        ap (λ es. (turn_at p (suc left) c t).entry ∷ es) (fuel_same p left rest (turn_at p (suc left) c t).after rest (Some t) k.ordered (omega arith) (omega arith))

-- ---- where they lead

record Reaches (p : Program) (c : Config) (left : ℕ) (es : List Entry) : Type 0 where
  pub config : Config
  pub reached : replay_from p c es ≡ Some config
  pub within : step_count es ≤ left
  pub workers : AllByRecursion (λ e. e.worker ≡ 0) es
  pub history : IsHistory es
  pub ended : (can_step p config ≡ false) ⊎ (step_count es ≡ left)

reaches : (p : Program) (f : ℕ) (c : Config) (left : ℕ) (last : Option ℕ) → IsOrdered c → left ≤ f → Reaches p c left (turns_within f p c left last)
reaches p zero c left last order lf =
    record { config = c; reached = refl; within = omega arith; workers = tt; history = tt; ended = inr (omega arith) }
reaches p (suc f) c left last order lf =
    ⊎_elim
    (λ some. subst (Reaches p c left) (sym (cond-true (nat_lt 0 left) (all (next_thread p c last)) [] some)) (go (ltb-true 0 left some) (next_thread p c last) refl (λ d rest t. reaches p f d rest (Some t))))
    (λ none.
    let past = ltb-false 0 left none in
    subst (Reaches p c left) (sym (cond-false (nat_lt 0 left) (all (next_thread p c last)) [] none))
    (record { config = c; reached = refl; within = omega arith; workers = tt; history = tt; ended = inr (omega arith) }))
    (cases_Bool (nat_lt 0 left))
  where
    all : Option ℕ → List Entry
    all o = turns_by (λ d rest t. turns_within f p d rest (Some t)) (turn_at p left c) left o

    go : 0 < left → (o : Option ℕ) → next_thread p c last ≡ o → ((d : Config) (rest t : ℕ) → IsOrdered d → rest ≤ f → Reaches p d rest (turns_within f p d rest (Some t))) → Reaches p c left (turns_by (λ d rest t. turns_within f p d rest (Some t)) (turn_at p left c) left o)
    go some None is more = record { config = c; reached = refl; within = omega arith; workers = tt; history = tt; ended = inl (none_able p c last is) }
    go some (Some t) is more =
        let h = taken_turn p c left t order some (next_able p c last t is) in
        let k = h.takes in
        let one = k.some in
        let most = k.within in
        let turn = turn_at p left c t in
        let rest = left - length (entry_steps turn.entry) in
        let r = more turn.after rest t k.ordered (omega arith) in
        let most_rest = r.within in
        record {
          config = r.config;
          reached = ap (option_and_then (λ d. replay_from p d (turns_within f p turn.after rest (Some t)))) k.leads ∙ r.reached;
          within = omega arith;
          workers = (turn_worker p left c t, r.workers);
          history = (h.shared, r.history);
          ended = ⊎_elim (λ still. inl still) (λ all. inr (omega arith)) r.ended;
        }

-- where no step is enabled or the steps are spent, there is an outcome
pub ends_somehow : (p : Program) (d : Config) (n steps : ℕ) → (can_step p d ≡ false) ⊎ (n ≡ steps) → (o : Outcome) × (outcome p d n steps None ≡ Some o)
ends_somehow p d n steps h =
    elim (has_threads d.threads) as (λ a. (o : Outcome) × ((if not a then Some EndDone else if not (can_step p d) then Some EndWaiting else if is_at_limit None (length d.messages) && not (can_step_without_sending p d) then Some EndFull else if nat_eq n steps then Some EndBudget else None) ≡ Some o)) [
      | false ↦ (EndDone, refl)
      | true ↦
          (elim (can_step p d) as (λ b. can_step p d ≡ b → (o : Outcome) × ((if not b then Some EndWaiting else if is_at_limit None (length d.messages) && not (can_step_without_sending p d) then Some EndFull else if nat_eq n steps then Some EndBudget else None) ≡ Some o)) [
            | false ↦ λ q. (EndWaiting, refl)
            | true ↦ λ q.
                ⊎_elim
                (λ still. absurd (clash q still))
                (λ spent. (EndBudget, cond-true (nat_eq n steps) (Some EndBudget) None (eq-eqb n steps spent)))
                h
          ]) refl
    ]

pub turns_end : (p : Program) (c : Config) (steps : ℕ) → IsOrdered c → TurnsReach p c steps (turns p c steps)
turns_end p c steps order =
    let r = reaches p steps c steps None order (omega arith) in
    record {
      config = r.config;
      reached = r.reached;
      within = r.within;
      workers = r.workers;
      history = r.history;
      ends = ends_somehow p r.config (step_count (turns p c steps)) steps r.ended;
    }
