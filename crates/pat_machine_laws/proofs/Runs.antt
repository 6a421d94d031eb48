-- A commit runs just the steps of its entry, and what that keeps.
use Rattle.std.proofs.Common.{◌≡◌, ℕ, ◌+◌, ◌-◌, ◌<◌, ◌≤◌, true, false, cond, nat_eq, List, [], ◌∷◌, ◌++◌, length, take, Option, Some, None, refl, sym, ap, ◌∙◌, subst, arith, ⊎_elim, ◌⊎◌, inl, inr, length-append}
use Rattle.std.specs.Prelude.{option_and_then, replicate}
use Rattle.std.proofs.lemmas.Bool.{cases_lt, eqb-true, eqb-false}
use Rattle.std.proofs.lemmas.List.{length-replicate, take_all, take-append-le}
use Rattle.pat_semantics_spec.specs.Programs.{Program}
use Rattle.pat_semantics_spec.specs.WellFormed.{WellFormed}
use Rattle.pat_semantics_spec.specs.Configs.{Thread, Config, thread_at, with_thread, start}
use Rattle.pat_semantics_spec.specs.Steps.{Act, ActLocal, ActNew, ActSend, ActSpawn, ActPrint, ActEnd, ActFree, ActReceive, Step, step}
use Rattle.pat_semantics_spec.specs.Runs.{Entry, run_from, IsSharedOrNone, shared_step, entry_steps, entry_from, replay_from, replay, step_count}
use Rattle.pat_semantics_laws.proofs.Replays.{runs_join, replays_join}
use Rattle.pat_semantics_laws.proofs.Lists.{all_snoc}
use Rattle.pat_machine_spec.specs.Interfaces.{interfaces_along}
use Rattle.pat_safety_laws.proofs.Preserved.{run_keeps}
use Rattle.pat_machine_spec.specs.Opens.{IsOpen}
use Rattle.pat_machine_spec.specs.Commits.{local_of, IsCommit, noted}
use Rattle.pat_machine_spec.specs.Lendings.{Out, allowance_of, allowances, newcomer, committed_out}
use Rattle.pat_machine_spec.specs.Machines.{StaysWithin, IsTypedBySome, MachineFacts, MachineInvariant}
use Rattle.pat_machine_laws.proofs.CommitsLookUps.{lookup_set_other}
use Rattle.pat_machine_laws.proofs.Locals.{there_after, locals_run, no_local_there}
use Rattle.pat_machine_laws.proofs.Moves.{step_moves, sent_by}
use Rattle.pat_machine_laws.proofs.Tables.{allowances_committed, length_committed, committed_still_out}

pub run_then : (p : Program) (c d e : Config) (ks js : List Step) → run_from p c ks ≡ Some d → run_from p d js ≡ Some e → run_from p c (ks ++ js) ≡ Some e
run_then p c d e ks js first second = runs_join p c ks js ∙ ap (option_and_then (λ d. run_from p d js)) first ∙ second

-- one step, by itself
pub one_step : (p : Program) (c d : Config) (k : Step) → run_from p c (k ∷ []) ≡ Some d → step p c k ≡ Some d
one_step p c d k h = go (step p c k) refl h
  where
    go : (o : Option Config) → step p c k ≡ o → option_and_then (λ e. run_from p e []) o ≡ Some d → step p c k ≡ Some d
    go None is g = cc
    go (Some e) is g = is ∙ g

at_most_one : (t : ℕ) (a : Option Act) → length (shared_step t a) ≤ 1
at_most_one t None = omega arith
at_most_one t (Some a) = omega arith

-- what the shared step, if there is one, leaves
pub record SharedMoves (limit : ℕ) (c : Config) (t : ℕ) (a : Option Act) (d : Config) : Type 0 where
  pub others : (u : ℕ) (s : Thread) → (t ≡ u → ⊥) → thread_at c u ≡ Some s → thread_at d u ≡ Some s
  pub threads : d.next_thread ≡ c.next_thread + length (newcomer a)
  pub messages : length c.messages ≤ limit → length d.messages ≤ limit

more_or_as_many : (a : Act) → (a ≡ ActSend) ⊎ (sent_by a ≡ 0)
more_or_as_many ActSend = inl refl
more_or_as_many ActLocal = inr refl
more_or_as_many ActNew = inr refl
more_or_as_many ActSpawn = inr refl
more_or_as_many ActPrint = inr refl
more_or_as_many ActEnd = inr refl
more_or_as_many ActFree = inr refl
more_or_as_many (ActReceive k) = inr refl

shared_moves : (p : Program) (limit : ℕ) (c : Config) (t : ℕ) (a : Option Act) (d : Config) → run_from p c (shared_step t a) ≡ Some d → ((b : Act) → a ≡ Some b → IsOpen p c limit (record { thread = t; act = b })) → SharedMoves limit c t a d
shared_moves p limit c t None d taken allowed =
    let same : c ≡ d = cc in
    subst (SharedMoves limit c t None) same (record { others = λ u s other there. there; threads = omega arith; messages = λ h. h })
shared_moves p limit c t (Some a) d taken allowed =
    let m = step_moves p c (record { thread = t; act = a }) d (one_step p c d (record { thread = t; act = a }) taken) in
    record {
      others = m.others;
      threads = m.threads;
      messages = λ h.
          let more : length d.messages ≤ length c.messages + sent_by a = m.messages in
          ⊎_elim
          (λ sends. let less : length c.messages < limit = (allowed a refl).1 sends in let one : sent_by a ≡ 1 = ap sent_by sends in omega arith)
          (λ none. omega arith)
          (more_or_as_many a);
    }

module _ (p : Program) (allowance limit : ℕ) (c d : Config) (e : Entry) (j : IsCommit p allowance limit c e d) where
  abbrev half : Config
  half = with_thread c e.thread j.middle

  pub locals_taken : run_from p c (replicate e.local_steps (local_of e.thread)) ≡ Some half
  locals_taken = locals_run p e.local_steps c e.thread j.kept j.middle j.there j.local.taken

  -- the shared step, if there is one, follows
  shared_taken : (run_from p half (shared_step e.thread e.shared) ≡ Some d) × ((b : Act) → e.shared ≡ Some b → IsOpen p half limit (record { thread = e.thread; act = b }))
  shared_taken =
      ⊎_elim
      (λ less. let s = j.shared less in (s.taken, s.allowed))
      (λ full.
      let within = j.local.within in
      let s = j.spent (omega arith) in
      (ap (λ (a : Option Act). run_from p half (shared_step e.thread a)) s.0 ∙ ap Some (sym s.1), λ b some. let none = s.0 in cc))
      (cases_lt e.local_steps allowance)

  pub commit_runs : run_from p c (entry_steps e) ≡ Some d
  commit_runs = run_then p c half d (replicate e.local_steps (local_of e.thread)) (shared_step e.thread e.shared) locals_taken shared_taken.0

  pub steps_length : length (entry_steps e) ≡ e.local_steps + length (shared_step e.thread e.shared)
  steps_length = length-append (replicate e.local_steps (local_of e.thread)) (shared_step e.thread e.shared) ∙ ap (λ k. k + length (shared_step e.thread e.shared)) (length-replicate e.local_steps (local_of e.thread))

  pub commit_within : length (entry_steps e) ≤ allowance
  commit_within =
      let whole = steps_length in
      ⊎_elim
      (λ less. let one = at_most_one e.thread e.shared in omega arith)
      (λ full.
      let within = j.local.within in
      let s = j.spent (omega arith) in
      let none : length (shared_step e.thread e.shared) ≡ 0 = ap (λ (a : Option Act). length (shared_step e.thread a)) s.0 in
      omega arith)
      (cases_lt e.local_steps allowance)

  pub commit_moves : SharedMoves limit c e.thread e.shared d
  commit_moves =
      let m = shared_moves p limit half e.thread e.shared d shared_taken.0 shared_taken.1 in
      record {
        others = λ u s other there. m.others u s other (lookup_set_other c.threads e.thread u j.middle other ∙ there);
        threads = m.threads;
        messages = m.messages;
      }

  -- its shared step, if it has one, is no local one
  pub commit_shared : IsSharedOrNone e.shared
  commit_shared = of_act e.shared refl
    where
      of_act : (a : Option Act) → e.shared ≡ a → IsSharedOrNone a
      of_act None is = tt
      of_act (Some ActNew) is = tt
      of_act (Some ActSend) is = tt
      of_act (Some ActSpawn) is = tt
      of_act (Some ActPrint) is = tt
      of_act (Some ActEnd) is = tt
      of_act (Some ActFree) is = tt
      of_act (Some (ActReceive k)) is = tt
      of_act (Some ActLocal) is =
          ⊎_elim
          (λ less.
          let none : step p half (local_of e.thread) ≡ None = no_local_there p half e.thread j.middle (there_after c e.thread j.kept j.middle j.there) (j.local.whole less) in
          let some = ((j.shared less).allowed ActLocal is).0.1 in
          cc)
          (λ full.
          let within = j.local.within in
          let none = (j.spent (omega arith)).0 in
          cc)
          (cases_lt e.local_steps allowance)

no_steps : (p : Program) (c d : Config) (ks : List Step) → length ks ≡ 0 → run_from p c ks ≡ Some d → c ≡ d
no_steps p c d [] none h = cc
no_steps p c d (k ∷ ks) none h = absurd (omega arith)

entry_runs : (p : Program) (c d : Config) (ks : List Step) → (length ks ≡ 0 → ⊥) → run_from p c ks ≡ Some d → entry_from p c ks ≡ Some d
entry_runs p c d [] some h = absurd (some refl)
entry_runs p c d (k ∷ ks) some h = h

-- one more entry
replay_more : (p : Program) (b c d : Config) (es : List Entry) (e : Entry) → replay_from p b es ≡ Some c → (length (entry_steps e) ≡ 0 → ⊥) → run_from p c (entry_steps e) ≡ Some d → replay_from p b (es ++ e ∷ []) ≡ Some d
replay_more p b c d es e before some h =
    replays_join p b es (e ∷ []) ∙ ap (option_and_then (λ m. replay_from p m (e ∷ []))) before
    ∙ ap (option_and_then (λ m. replay_from p m [])) (entry_runs p c d (entry_steps e) some h)

count_more : (es : List Entry) (e : Entry) → step_count (es ++ e ∷ []) ≡ step_count es + length (entry_steps e)
count_more [] e = omega arith
count_more (x ∷ es) e = ap (λ n. length (entry_steps x) + n) (count_more es e) ∙ omega arith

same_result : (o : Option Config) (d e : Config) → o ≡ Some d → o ≡ Some e → d ≡ e
same_result o d e h g = let both : Some d ≡ Some e = sym h ∙ g in cc

-- the messages of the configuration itself are within the limit
pub limited_now : (p : Program) (limit : ℕ) (c : Config) (es : List Entry) → StaysWithin p limit es → replay p es ≡ Some c → length c.messages ≤ limit
limited_now p limit c es h r = h (length es) c (ap (replay p) (take_all (length es) es (omega arith)) ∙ r)

limited_more : (p : Program) (limit : ℕ) (d : Config) (es : List Entry) (e : Entry) → StaysWithin p limit es → replay p (es ++ e ∷ []) ≡ Some d → length d.messages ≤ limit → StaysWithin p limit (es ++ e ∷ [])
limited_more p limit d es e h r less k x g =
    ⊎_elim
    (λ within. h k x (ap (replay p) (sym (take-append-le k es (e ∷ []) within)) ∙ g))
    (λ past.
    let n = length-append es (e ∷ []) in
    let all : take k (es ++ e ∷ []) ≡ es ++ e ∷ [] = take_all k (es ++ e ∷ []) (omega arith) in
    let same : d ≡ x = same_result (replay p (es ++ e ∷ [])) d x r (ap (replay p) (sym all) ∙ g) in
    subst (λ (y : Config). length y.messages ≤ limit) same less)
    (cases k (length es))
  where
    cases : (m n : ℕ) → (m ≤ n) ⊎ (n < m)
    cases m n = ⊎_elim (λ l. inr l) (λ l. inl l) (cases_lt n m)

-- a run keeps a configuration typed
pub run_typed_by_some : (p : Program) (ks : List Step) (c d : Config) → WellFormed p → IsTypedBySome p c → run_from p c ks ≡ Some d → IsTypedBySome p d
run_typed_by_some p ks c d well y h = record { typing = y.typing; interfaces = interfaces_along p c ks y.interfaces; typed = run_keeps p y.typing y.interfaces ks c d well y.typed h }

-- what a machine keeps through a run of one entry
facts_more : (p : Program) (budget limit : ℕ) (c d : Config) (es : List Entry) (left back : ℕ) (out now : Out) (e : Entry)
    → WellFormed p → MachineFacts p budget limit c es left out → IsSharedOrNone e.shared → run_from p c (entry_steps e) ≡ Some d → length d.messages ≤ limit
    → allowances now + length (entry_steps e) + back ≡ allowances out → MachineFacts p budget limit d (noted es e) (left + back) now
facts_more p budget limit c d es left back out now e well f shared h less count =
    let typed = run_typed_by_some p (entry_steps e) c d well f.typed h in
    let counted : step_count es + left + allowances out ≡ budget = f.counted in
    (elim (nat_eq (length (entry_steps e)) 0) as (λ b. nat_eq (length (entry_steps e)) 0 ≡ b → MachineFacts p budget limit d (cond b es (es ++ e ∷ [])) (left + back) now) [
      | true ↦ λ q.
          let none : length (entry_steps e) ≡ 0 = eqb-true (length (entry_steps e)) 0 q in
          let same = no_steps p c d (entry_steps e) none h in
          record { replayed = f.replayed ∙ ap Some same; history = f.history; typed = typed; counted = omega arith; limited = f.limited }
      | false ↦ λ q.
          let replayed = replay_more p (start p) c d es e f.replayed (eqb-false (length (entry_steps e)) 0 q) h in
          let more = count_more es e in
          record {
            replayed = replayed;
            history = all_snoc (λ x. IsSharedOrNone x.shared) es e f.history shared;
            typed = typed;
            counted = omega arith;
            limited = limited_more p limit d es e f.limited replayed less;
          }
    ]) refl

-- a commit keeps what a machine keeps
pub commit_stands : (p : Program) (budget limit allowance : ℕ) (c d : Config) (es : List Entry) (left : ℕ) (out : Out) (e : Entry)
    → MachineInvariant p budget limit c es left out → allowance_of out e.thread ≡ Some allowance → IsCommit p allowance limit c e d
    → MachineInvariant p budget limit d (noted es e) (left + (allowance - length (entry_steps e))) (committed_out out e.thread e.shared)
commit_stands p budget limit allowance c d es left out e s is j =
    let moves = commit_moves p allowance limit c d e j in
    let runs = commit_runs p allowance limit c d e j in
    let within = commit_within p allowance limit c d e j in
    let back = allowances_committed out e.thread allowance e.shared is in
    let fewer = limited_now p limit c es s.facts.limited s.facts.replayed in
    let long = length_committed out e.thread e.shared in
    record {
      well = s.well;
      small = s.small;
      space = s.space;
      facts = facts_more p budget limit c d es left (allowance - length (entry_steps e)) out (committed_out out e.thread e.shared) e s.well s.facts (commit_shared p allowance limit c d e j) runs (moves.messages fewer) (omega arith);
      table = record {
        whole = let w = s.table.whole in let n = moves.threads in omega arith;
        some = λ u m h. s.table.some u m (committed_still_out out e.thread u m e.shared h).1;
        there = λ u m h.
            let o = committed_still_out out e.thread u m e.shared h in
            let k = s.table.there u m o.1 in
            (k.0, moves.others u k.0 o.0 k.1);
      };
    }
