-- Names that are counted, before and after steps.
use Rattle.std.proofs.Common.{◌≡◌, ℕ, ◌+◌, ◌≤◌, true, false, cond, nat_eq, List, [], ◌∷◌, Option, Some, None, refl, sym, ap, ◌∙◌, subst, arith}
use Rattle.std.specs.Prelude.{option_map, option_and_then}
use Rattle.std.specs.Map.{lookup}
use Rattle.std.proofs.lemmas.Bool.{eq-eqb, eqb-true}
use Rattle.pat_semantics_spec.specs.Programs.{Program, is_among}
use Rattle.pat_semantics_spec.specs.Configs.{Thread, Config, start, thread_at, with_thread, has_pending, is_reached_by_none_but}
use Rattle.pat_semantics_spec.specs.Orders.{IsOrdered}
use Rattle.pat_semantics_spec.specs.Steps.{Act, ActEnd, ActFree, ActSend, redex, at_node, thread_step, step}
use Rattle.pat_semantics_spec.specs.Runs.{IsShared, run_from, shared_step}
use Rattle.pat_semantics_laws.specs.Laws.{IsEnabled}
use Rattle.pat_semantics_laws.proofs.Inversion.{step_of, send_step, end_step}
use Rattle.pat_machine_spec.specs.Tops.{top_of, below, over}
use Rattle.pat_machine_laws.specs.refcounts.Naming.{times_in_control, times_in_frames, times_in_thread, times_in_threads, times_in}
use Rattle.pat_machine_laws.specs.refcounts.Counting.{count_at, times_come, times_gone, times_if_thread, times_if_top}
use Rattle.pat_machine_laws.specs.refcounts.Laws.{ReachedAloneTest}
use Rattle.pat_machine_laws.proofs.Changed.{exchanged_top}
use Rattle.pat_machine_laws.proofs.Live.{start_names}
use Rattle.pat_machine_laws.proofs.Committed.{step_counts, shared_step_keeps_frames}
use Rattle.pat_machine_laws.proofs.Parts.{ended}
use Rattle.pat_reduce.specs.threads.ThreadActs.{Guarding, guard_at}
use Rattle.pat_reduce.proofs.Shared.{freed, free_step}
use Rattle.pat_replay.specs.declared.names.Change.TheVariants.{Go}
use Rattle.pat_replay.specs.Naming.{Changes, CountsAll, IsSentLast}
use Rattle.pat_replay.proofs.MayFree.{may_be_freed}
use Rattle.pat_replay.proofs.Walks.{none_counted}

-- at a start nothing is named
pub start_counted : (p : Program) (c : Config) (ns : List ℕ) → c ≡ start p → ns ≡ [] → CountsAll ns c
start_counted p c ns is none = λ (a : ℕ).
    ap (λ l. count_at l a) none ∙ none_counted a ∙ sym (ap (times_in a) is ∙ start_names p a)

-- where the top of a thread is exchanged
pub exchanged_counted : (c : Config) (t n : ℕ) (s r : Thread) (ns ms : List ℕ) → thread_at c t ≡ Some s → CountsAll ns c
    → ((a : ℕ) → count_at ms a + times_in_thread a (top_of n s) ≡ count_at ns a + times_in_thread a r) → CountsAll ms (with_thread c t (over r (below n s)))
exchanged_counted c t n s r ns ms there all changed = λ (a : ℕ).
    let before = all a in
    let change = changed a in
    let law = exchanged_top c a t n s r there in
    omega arith

-- a thread that is left has its frames below its control, and one that ended had none
kept_over : (a : ℕ) (s : Thread) (o : Option Thread) → (o ≡ None → s.frames ≡ []) → ((r : Thread) → o ≡ Some r → r.frames ≡ s.frames) → times_if_thread a o ≡ times_if_top 0 a o + times_in_frames a s.frames
kept_over a s None bare kept = let none = ap (times_in_frames a) (bare refl) in omega arith
kept_over a s (Some r) bare kept = let same = ap (times_in_frames a) (kept r refl) in omega arith

ended_bare : (p : Program) (c d : Config) (t : ℕ) (s : Thread) (act : Act) → act ≡ ActEnd → thread_step p c t s act ≡ Some d → s.frames ≡ []
ended_bare p c d t s act is gives =
    (ended p c t s d (end_step p c t s d s.frames (redex p s.control) refl refl (ap (thread_step p c t s) (sym is) ∙ gives))).0

-- where a shared step is taken, and what it took and put there is counted
pub shared_counted : (p : Program) (c d : Config) (t : ℕ) (act : Act) (ns ms ls : List ℕ) → IsOrdered c → IsShared act → step p c (record { thread = t; act = act }) ≡ Some d → CountsAll ns c
    → Changes Go ns (λ a. times_if_top 0 a (thread_at c t)) ms → (thread_at d t ≡ None → act ≡ ActEnd)
    → ((a : ℕ) → count_at ls a + times_gone c (Some act) a ≡ count_at ms a + (times_if_top 0 a (thread_at d t) + times_come c d (Some act) a)) → CountsAll ls d
shared_counted p c d t act ns ms ls ordered shared leads all went ends came = λ (a : ℕ).
    let o = step_of p c (record { thread = t; act = act }) d leads in
    let s = o.thread in
    let run : run_from p c (shared_step t (Some act)) ≡ Some d = ap (option_and_then (λ x. run_from p x [])) leads in
    let sums = step_counts p c d t s (Some act) a ordered o.there run in
    let kept = kept_over a s (thread_at d t) (λ none. ended_bare p c d t s act (ends none) o.gives) (λ r now. shared_step_keeps_frames p c d t s r (Some act) ordered shared o.there run now) in
    let before = all a in
    let gone = subst (λ (x : Option Thread). count_at ms a + times_if_top 0 a x ≡ count_at ns a) o.there (went a) in
    let put = came a in
    omega arith

-- a message that was sent is the last one
pub sent_last : (p : Program) (c d : Config) (t : ℕ) (act : Act) → step p c (record { thread = t; act = act }) ≡ Some d → act ≡ ActSend → IsSentLast d
sent_last p c d t act leads is =
    let sends : step p c (record { thread = t; act = ActSend }) ≡ Some d = ap (λ a. step p c (record { thread = t; act = a })) (sym is) ∙ leads in
    let o = step_of p c (record { thread = t; act = ActSend }) d sends in
    let q = send_step p c t o.thread d (redex p o.thread.control) refl o.gives in
    record {
      before = c.messages;
      message = record { number = c.next_message; mailbox = q.mailbox; tag = q.tag; values = q.values };
      last = ap (λ (x : Config). x.messages) q.result;
      next = sym (ap (λ (x : Config). x.next_message) q.result);
    }

-- a thread names a mailbox no oftener than all threads
thread_among : (a t : ℕ) (ts : List (ℕ × Thread)) (s : Thread) → lookup (nat_eq t) ts ≡ Some s → times_in_thread a s ≤ times_in_threads a ts
thread_among a t [] s h = cc
thread_among a t (e ∷ es) s h =
    (elim (nat_eq t e.0) as (λ v. cond v (Some e.1) (lookup (nat_eq t) es) ≡ Some s → times_in_thread a s ≤ times_in_threads a (e ∷ es)) [
      | true ↦ λ k. let same : e.1 ≡ s = cc in let number = ap (times_in_thread a) same in omega arith
      | false ↦ λ k. let rest = thread_among a t es s k in omega arith
    ]) h

-- so where its control alone names it, the thread names it as often as all
alone_names : (c : Config) (t : ℕ) (ns : List ℕ) (s : Thread) (a : ℕ) → CountsAll ns c → thread_at c t ≡ Some s → nat_eq (count_at ns a) (times_in_control a s.control) ≡ true → nat_eq (times_in a c) (times_in_thread a s) ≡ true
alone_names c t ns s a all there just =
    let counted = all a in
    let same = eqb-true (count_at ns a) (times_in_control a s.control) just in
    let least = thread_among a t c.threads s there in
    let equal : times_in a c ≡ times_in_thread a s = omega arith in
    eq-eqb (times_in a c) (times_in_thread a s) equal

-- and then it may free it
pub enabled_free : ReachedAloneTest → (p : Program) (c : Config) (t : ℕ) (ns : List ℕ) (s : Thread) (g : Guarding) (n : ℕ) → IsOrdered c → CountsAll ns c → thread_at c t ≡ Some s → Some g ≡ guard_at (redex p s.control) → g.free ≡ Some n
    → is_among g.mailbox c.live ≡ true → has_pending g.mailbox c.messages ≡ false → nat_eq (count_at ns g.mailbox) (times_in_control g.mailbox s.control) ≡ true → IsEnabled p c (record { thread = t; act = ActFree })
enabled_free law p c t ns s g n ordered all there guards free live empty just =
    let alone : is_reached_by_none_but c g.mailbox t ≡ true = law c g.mailbox t s ordered there ∙ alone_names c t ns s g.mailbox all there just in
    let frees = may_be_freed p c t (redex p s.control) g n guards free live empty alone in (
      freed c t s.frames (g.mailbox, at_node p n g.env),
      free_step p c t s there ∙ ap (option_map (freed c t s.frames)) frees,
    )
