-- What is named once a job is committed: the step that it takes, and the top of its thread that is exchanged.
use Rattle.std.proofs.Common.{◌≡◌, ℕ, ◌+◌, ◌<◌, ◌≤◌, List, [], length, Option, Some, None, refl, sym, ap, ◌∙◌, subst, arith}
use Rattle.std.specs.Prelude.{drop}
use Rattle.std.proofs.Math.Seq.{drop-append_seam}
use Rattle.pat_semantics_spec.specs.Programs.{Program}
use Rattle.pat_semantics_spec.specs.Configs.{Frame, Thread, Message, Config, thread_at, with_thread}
use Rattle.pat_semantics_spec.specs.Orders.{AscendsFrom, IsOrdered}
use Rattle.pat_semantics_spec.specs.Steps.{Act, ActReceive, message_at, thread_step, step}
use Rattle.pat_semantics_spec.specs.Runs.{IsSharedOrNone, run_from, shared_step}
use Rattle.pat_semantics_laws.proofs.Ascending.{keys_of-set}
use Rattle.pat_semantics_laws.proofs.Inversion.{step_of}
use Rattle.pat_semantics_laws.proofs.Lists.{nil_parts}
use Rattle.pat_semantics_laws.proofs.Replays.{first_of}
use Rattle.pat_semantics_laws.proofs.Threads.{set_all}
use Rattle.pat_machine_spec.specs.Tops.{top_of, below, over}
use Rattle.pat_machine_laws.proofs.Locals.{there_after}
use Rattle.pat_machine_laws.specs.refcounts.Naming.{times_in_frames, times_in_thread, times_in_messages, times_in}
use Rattle.pat_machine_laws.specs.refcounts.Counting.{AreCountedBut, times_if_message, times_if_thread, times_if_top, times_gone, times_come}
use Rattle.pat_machine_laws.specs.refcounts.Laws.{CommitNames}
use Rattle.pat_machine_laws.proofs.Changed.{exchanged_top, others_count}
use Rattle.pat_machine_laws.proofs.Joined.{over_counts, top_counts}
use Rattle.pat_machine_laws.proofs.Sums.{remove_sum}
use Rattle.pat_machine_laws.proofs.RefcountsLeft.{AreNumbered, HasKept, Leaves, by_act}

one_thread : (o : Option Thread) (r s : Thread) → o ≡ Some r → o ≡ Some s → r ≡ s
one_thread None r s is at = cc
one_thread (Some x) r s is at = cc

module _ (p : Program) (c d : Config) (t : ℕ) (s : Thread) (numbered : AreNumbered c) (there : thread_at c t ≡ Some s) where
  nothing_done : c ≡ d → Leaves c d t s None
  nothing_done same =
      let now : thread_at d t ≡ Some s = ap (λ (x : Config). thread_at x t) (sym same) ∙ there in
      record {
        counts = λ a. let own = ap (times_if_thread a) now in let all = ap (times_in a) same in omega arith;
        frames = λ shared. subst (HasKept s) (sym now) refl;
      }

  leaves : (act : Option Act) → run_from p c (shared_step t act) ≡ Some d → Leaves c d t s act
  leaves None h = nothing_done cc
  leaves (Some a) h =
      let q = first_of (λ x. run_from p x []) d (step p c (record { thread = t; act = a })) h in
      let same : q.0 ≡ d = cc in
      let o = step_of p c (record { thread = t; act = a }) q.0 q.1 in
      let own : o.thread ≡ s = one_thread (thread_at c t) o.thread s o.there there in
      let gives : thread_step p c t s a ≡ Some q.0 = subst (λ r. thread_step p c t r a ≡ Some q.0) own o.gives in
      subst (λ (x : Config). Leaves c x t s (Some a)) same (by_act p c q.0 t s numbered there a gives)

in_order : (c : Config) → IsOrdered c → AreNumbered c
in_order c ordered = record { threads = ordered.threads; messages = ordered.messages; below = ordered.threads_below }

pub step_counts : (p : Program) (c d : Config) (t : ℕ) (s : Thread) (act : Option Act) (a : ℕ) → IsOrdered c → thread_at c t ≡ Some s → run_from p c (shared_step t act) ≡ Some d → times_in a d + (times_in_thread a s + times_gone c act a) ≡ times_in a c + (times_if_thread a (thread_at d t) + times_come c d act a)
step_counts p c d t s act a ordered there h = (leaves p c d t s (in_order c ordered) there act h).counts a

pub shared_step_keeps_frames : (p : Program) (c d : Config) (t : ℕ) (s r : Thread) (act : Option Act) → IsOrdered c → IsSharedOrNone act → thread_at c t ≡ Some s → run_from p c (shared_step t act) ≡ Some d → thread_at d t ≡ Some r → r.frames ≡ s.frames
shared_step_keeps_frames p c d t s r act ordered shared there h now =
    subst (HasKept s) now ((leaves p c d t s (in_order c ordered) there act h).frames shared)

-- ---- the top of the thread exchanged before the step

half_numbered : (c : Config) (t : ℕ) (r : Thread) → IsOrdered c → AreNumbered (with_thread c t r)
half_numbered c t r ordered = record {
  threads = subst (AscendsFrom 0) (sym (keys_of-set c.threads t r)) ordered.threads;
  messages = ordered.messages;
  below = set_all (λ e. e.0 < c.next_thread) c.threads t r (λ e low. low) ordered.threads_below;
}

-- what a message names, messages name
carried : (c : Config) (k a : ℕ) (o : Option Message) → AreNumbered c → message_at c k ≡ o → times_if_message a o ≤ times_in_messages a c.messages
carried c k a None numbered is = omega arith
carried c k a (Some m) numbered is = let split = others_count a k 0 c.messages m numbered.messages is in omega arith

gone_carried : (c : Config) (act : Option Act) (a : ℕ) → AreNumbered c → times_gone c act a ≤ times_in_messages a c.messages
gone_carried c (Some (ActReceive k)) a numbered = carried c k a (message_at c k) numbered refl
gone_carried c _ a numbered = omega arith

-- the thread that is left has its frames below the new top, and where it ended there are none
left_over : (a : ℕ) (end : Thread) (rest : List Frame) (o : Option Thread) → HasKept (over end rest) o → times_if_thread a o ≡ times_if_top (length end.frames) a o + times_in_frames a rest
left_over a end rest None h = let none = ap (times_in_frames a) (nil_parts end.frames rest h).1 in omega arith
left_over a end rest (Some r) h =
    top_counts a (length end.frames) r
    ∙ ap (λ fs. times_in_thread a (top_of (length end.frames) r) + times_in_frames a fs)
    (ap (λ (fs : List Frame). drop (length end.frames) fs) h ∙ drop-append_seam end.frames rest)

pub commit_counts : (p : Program) (c d : Config) (ns : List ℕ) (t n : ℕ) (kept end : Thread) (act : Option Act) (a : ℕ) → IsOrdered c → IsSharedOrNone act → thread_at c t ≡ Some kept → AreCountedBut (λ b. times_in_thread b (top_of n kept)) ns c → run_from p (with_thread c t (over end (below n kept))) (shared_step t act) ≡ Some d → CommitNames (with_thread c t (over end (below n kept))) d t (length end.frames) act ns a
commit_counts p c d ns t n kept end act a ordered shared there counted h =
    let whole : Thread = over end (below n kept) in
    let half : Config = with_thread c t whole in
    let numbered : AreNumbered half = half_numbered c t whole ordered in
    let left = leaves p half d t whole numbered (there_after c t kept whole there) act h in
    let times = counted.times a in
    record {
      gone =
          let carries = gone_carried half act a numbered in
          let own = top_counts a n kept in
          let split = remove_sum (times_in_thread a) t c.threads kept there in
          omega arith;
      all =
          let sums = left.counts a in
          let tops = exchanged_top c a t n kept end there in
          let joined = over_counts a end (below n kept) in
          let lower = left_over a end (below n kept) (thread_at d t) (left.frames shared) in
          omega arith;
    }
