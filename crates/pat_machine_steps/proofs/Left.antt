-- What is left to be counted once the local steps and the shared step were taken.
use Rattle.std.proofs.Common.{◌≡◌, ℕ, ◌+◌, ◌<◌, ◌≤◌, List, [], length, Option, Some, None, refl, sym, ap, ◌∙◌, subst, arith}
use Rattle.pat_semantics_spec.specs.Programs.{Program}
use Rattle.pat_semantics_spec.specs.WellFormed.{WellFormed}
use Rattle.pat_semantics_spec.specs.Configs.{Returned, Thread, Message, Config, thread_at, with_thread}
use Rattle.pat_semantics_spec.specs.Orders.{IsOrdered}
use Rattle.pat_semantics_spec.specs.Steps.{Act, ActLocal, ActNew, ActSend, ActSpawn, ActPrint, ActEnd, ActFree, ActReceive, message_at, thread_of}
use Rattle.pat_semantics_spec.specs.Values.{Const, UnitConst}
use Rattle.pat_semantics_spec.specs.Runs.{IsSharedOrNone, run_from, shared_step}
use Rattle.pat_semantics_laws.proofs.Threads.{set_all}
use Rattle.pat_machine_spec.specs.Commits.{Shares}
use Rattle.pat_machine_spec.specs.Machines.{IsTypedBySome}
use Rattle.pat_machine_spec.specs.Tops.{top_of, below, over}
use Rattle.pat_machine_laws.specs.refcounts.Naming.{times_in_thread, times_in}
use Rattle.pat_machine_laws.specs.refcounts.Counting.{AreCountedBut, TellsAlone, is_unnamed, times_if_message, times_gone, times_come}
use Rattle.pat_machine_laws.proofs.Freed.{counts_tell_without_top}
use Rattle.pat_machine_laws.proofs.Changed.{exchanged_top}
use Rattle.pat_machine_laws.proofs.Committed.{commit_counts}
use Rattle.pat_machine_steps.specs.shared_steps.Leaving.{IsLeft, made_by, times_received, times_put}
use Rattle.pat_machine_states.proofs.Locals.{with_same}
use Rattle.pat_machine_steps.specs.shared_steps.Settling.{StandsStill}
use Rattle.pat_machine_steps.proofs.Acts.{after}
use Rattle.pat_machine_steps.proofs.Settled.{shared_in_place}

-- the top of a thread names no more than all that there is
pub top_within : (c : Config) (a t n : ℕ) (s : Thread) → thread_at c t ≡ Some s → times_in_thread a (top_of n s) ≤ times_in a c
top_within c a t n s there =
    let nothing = thread_of (Returned (Const UnitConst)) [] in
    let whole = exchanged_top c a t n s nothing there in
    omega arith

-- a thread with no frame is its own top
pub bare_top : (s : Thread) → s.frames ≡ [] → s ≡ top_of 0 s
bare_top s none = ap (λ fs. thread_of s.control fs) none

gone_is : (c : Config) (act : Option Act) (m : Option Message) (a : ℕ) → ((k : ℕ) → act ≡ Some (ActReceive k) → m ≡ message_at c k) → times_gone c act a ≡ times_received act m a
gone_is c None m a h = refl
gone_is c (Some ActLocal) m a h = refl
gone_is c (Some ActNew) m a h = refl
gone_is c (Some ActSend) m a h = refl
gone_is c (Some ActSpawn) m a h = refl
gone_is c (Some ActPrint) m a h = refl
gone_is c (Some ActEnd) m a h = refl
gone_is c (Some ActFree) m a h = refl
gone_is c (Some (ActReceive k)) m a h = ap (times_if_message a) (sym (h k refl))

come_is : (c d : Config) (act : Option Act) (a : ℕ) → times_come c d act a ≡ times_put d c.next_thread act a
come_is c d None a = refl
come_is c d (Some ActLocal) a = refl
come_is c d (Some ActNew) a = refl
come_is c d (Some ActSend) a = refl
come_is c d (Some ActSpawn) a = refl
come_is c d (Some ActPrint) a = refl
come_is c d (Some ActEnd) a = refl
come_is c d (Some ActFree) a = refl
come_is c d (Some (ActReceive k)) a = refl

pub left_of : (p : Program) (c d : Config) (ns : List ℕ) (t n : ℕ) (kept end : Thread) (act : Option Act) (m : Option Message) → IsOrdered c → thread_at c t ≡ Some kept → IsSharedOrNone act
    → AreCountedBut (λ a. times_in_thread a (top_of n kept)) ns c → run_from p (with_thread c t (over end (below n kept))) (shared_step t act) ≡ Some d
    → ((k : ℕ) → act ≡ Some (ActReceive k) → m ≡ message_at c k) → IsLeft t (length end.frames) c.next_thread act m ns d
left_of p c d ns t n kept end act m ordered there shared counted run received =
    let half = with_thread c t (over end (below n kept)) in
    let after_it = after p half d t (set_all (λ e. e.0 < c.next_thread) c.threads t (over end (below n kept)) (λ e k. k) ordered.threads_below) act run in
    record {
      mailboxes = after_it.mailboxes ∙ ap (λ k. k + made_by act) (sym counted.whole);
      taken = λ a.
          let names = commit_counts p c d ns t n kept end act a ordered shared there counted run in
          let within = names.gone in
          let gone = gone_is half act m a received in
          omega arith;
      all = λ a.
          let names = commit_counts p c d ns t n kept end act a ordered shared there counted run in
          let all = names.all in
          let gone = gone_is half act m a received in
          let come = come_is half d act a in
          omega arith;
      found = after_it.found;
    }

-- ---- a thread that has no local step, where it stands

pub told_in_place : (p : Program) (c : Config) (ns : List ℕ) (t : ℕ) (s : Thread) → WellFormed p → IsOrdered c → thread_at c t ≡ Some s → IsTypedBySome p c → AreCountedBut (λ a. times_in_thread a (top_of 0 s)) ns c
    → TellsAlone p c t s (is_unnamed p ns s)
told_in_place p c ns t s w ordered there typed counted =
    let same = with_same c t s there in
    subst (λ d. TellsAlone p d t s (is_unnamed p ns s)) same
    (counts_tell_without_top p c ns t 0 s (top_of 0 s) w ordered there (subst (IsTypedBySome p) (sym same) typed) counted)

pub left_in_place : (p : Program) (limit : ℕ) (c d : Config) (ns : List ℕ) (t : ℕ) (h : StandsStill p c t) (act : Option Act) (m : Option Message) → IsOrdered c → AreCountedBut (λ a. times_in_thread a (top_of 0 h.kept)) ns c → Shares p limit c t act d
    → ((k : ℕ) → act ≡ Some (ActReceive k) → m ≡ message_at c k) → IsLeft t 0 c.next_thread act m ns d
left_in_place p limit c d ns t h act m ordered counted f received =
    left_of p c d ns t 0 h.kept (top_of 0 h.kept) act m ordered h.there (shared_in_place p c t h limit d act f) counted
    (subst (λ x. run_from p x (shared_step t act) ≡ Some d) (sym (with_same c t h.kept h.there)) f.taken)
    received
