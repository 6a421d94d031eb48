-- A mailbox that a thread may free is in none of its frames, so counts of names tell who may free one.
use Rattle.std.proofs.Common.{◌≡◌, ℕ, ◌≤◌, true, false, not, ◌&&◌, nat_eq, List, Option, Some, None, refl, sym, ap, ◌∙◌, arith, ⊎_elim}
use Rattle.std.specs.Prelude.{option_and_then, filter}
use Rattle.std.proofs.Math.Nat.{eq-zero-or-pos}
use Rattle.std.proofs.lemmas.Bool.{and_from, cond-true, eqb-true, eqb-false, eq-eqb, ne_eqb}
use Rattle.std.proofs.lemmas.Map.Views.{any-filter_same}
use Rattle.pat_semantics_spec.specs.Values.{Value, Const, Mailbox, value_at}
use Rattle.pat_semantics_spec.specs.Programs.{Program, Guard, is_among}
use Rattle.pat_semantics_spec.specs.WellFormed.{WellFormed}
use Rattle.pat_semantics_spec.specs.Configs.{Control, Thread, Config, thread_at, with_thread, has_pending, is_reached_by_none_but}
use Rattle.pat_semantics_spec.specs.Orders.{IsOrdered}
use Rattle.pat_semantics_spec.specs.Steps.{ActFree, Redex, At, redex, at_node, thread_of, free_mailbox, free_at, thread_step, step}
use Rattle.pat_semantics_laws.proofs.Lists.{clash}
use Rattle.pat_safety_laws.proofs.Preserved.{step_keeps}
use Rattle.pat_type_system_spec.specs.Interfaces.{interfaces_after}
use Rattle.pat_machine_spec.specs.Tops.{top_of, below, over}
use Rattle.pat_machine_spec.specs.Machines.{IsTypedBySome}
use Rattle.pat_machine_laws.proofs.Locals.{there_after}
use Rattle.pat_machine_laws.specs.wakeups.Wakings.{mailbox_in}
use Rattle.pat_machine_laws.specs.refcounts.Naming.{times_in_control, times_in_frames, times_in_thread, times_in}
use Rattle.pat_machine_laws.specs.refcounts.Counting.{count_at, AreCounted, AreCountedBut, freed_at, freed, TellsAlone, TellOfEach, is_named_just, is_unnamed}
use Rattle.pat_machine_laws.proofs.Alone.{alone_test}
use Rattle.pat_machine_laws.proofs.Changed.{exchanged_thread, exchanged_top}
use Rattle.pat_machine_laws.proofs.Joined.{frames_join}
use Rattle.pat_machine_laws.proofs.Live.{named_live}
use Rattle.pat_machine_laws.proofs.Sums.{remove_sum}

-- what was taken out of a list isn't in it
taken_out : (a : ℕ) (xs : List ℕ) → is_among a (filter (λ b. not (nat_eq b a)) xs) ≡ false
taken_out a xs = any-filter_same (nat_eq a) (λ b. not (nat_eq b a)) false (λ k h. ap not (eq-eqb k a (sym (eqb-true a k h)))) xs

mailbox_is : (o : Option Value) (a : ℕ) → mailbox_in o ≡ Some a → o ≡ Some (Mailbox a)
mailbox_is (Some (Mailbox b)) a h = let same : b ≡ a = cc in ap (λ n. Some (Mailbox n)) same
mailbox_is (Some (Const k)) a h = cc
mailbox_is None a h = cc

-- two tests of numbers that come to the same
same_tests : (m n k l : ℕ) → (m ≡ n → k ≡ l) → (k ≡ l → m ≡ n) → nat_eq m n ≡ nat_eq k l
same_tests m n k l there back =
    (elim (nat_eq k l) as (λ b. nat_eq k l ≡ b → nat_eq m n ≡ b) [
      | true ↦ λ q. eq-eqb m n (back (eqb-true k l q))
      | false ↦ λ q. ne_eqb m n (λ h. eqb-false k l q (there h))
    ]) refl

-- the configuration after a free, where the thread goes on with this control
abbrev freed_with : Config → ℕ → Thread → ℕ → Control → Config
freed_with c t s a k = record (with_thread c t (thread_of k s.frames)) { live = filter (λ b. not (nat_eq b a)) c.live }

-- ---- one mailbox that a thread may free as soon as nothing else reaches it

module _ (p : Program) (c : Config) (t : ℕ) (s : Thread) (a : ℕ) (w : WellFormed p) (typed : IsTypedBySome p c) (there : thread_at c t ≡ Some s) (frees : freed p s ≡ Some a) (live : is_among a c.live ≡ true) (empty : has_pending a c.messages ≡ false) where
  may_free : is_reached_by_none_but c a t ≡ true → (is_among a c.live && (not (has_pending a c.messages) && is_reached_by_none_but c a t)) ≡ true
  may_free alone =
      and_from (is_among a c.live) (not (has_pending a c.messages) && is_reached_by_none_but c a t) live
      (and_from (not (has_pending a c.messages)) (is_reached_by_none_but c a t) (ap not empty) alone)

  free_clause : (r : Redex) → is_reached_by_none_but c a t ≡ true → freed_at r ≡ Some a → (k : Control) × (free_at p c t s.frames r ≡ Some (freed_with c t s a k))
  free_clause (At (Guard x e (Some n) cs) env) alone h = (
    at_node p n env,
    ap (free_mailbox p c t s.frames (Some n) env) (mailbox_is (value_at env x) a h)
        ∙ cond-true (is_among a c.live && (not (has_pending a c.messages) && is_reached_by_none_but c a t)) (Some (freed_with c t s a (at_node p n env))) None (may_free alone),
  )
  free_clause _ alone h = cc

  within : times_in_thread a s ≤ times_in a c
  within = let split = remove_sum (times_in_thread a) t c.threads s there in omega arith

  -- the thread frees it, and then nothing names it
  pub freed_unframed : is_reached_by_none_but c a t ≡ true → times_in_frames a s.frames ≡ 0
  freed_unframed alone =
      let one = free_clause (redex p s.control) alone frees in
      let d : Config = freed_with c t s a one.0 in
      let taken : step p c (record { thread = t; act = ActFree }) ≡ Some d = ap (option_and_then (λ r. thread_step p c t r ActFree)) there ∙ one.1 in
      let after : IsTypedBySome p d = record {
        typing = typed.typing;
        interfaces = interfaces_after p c (record { thread = t; act = ActFree }) typed.interfaces;
        typed = step_keeps p typed.typing typed.interfaces c d (record { thread = t; act = ActFree }) w typed.typed taken;
      } in
      let sums = exchanged_thread c a t s (thread_of one.0 s.frames) there in
      let least = within in
      ⊎_elim
      (λ none. omega arith)
      (λ some. absurd (clash (named_live p d a after some) (taken_out a c.live)))
      (eq-zero-or-pos (times_in a d))

  -- so whether nothing else reaches it is whether two numbers are one, where these are just if all that names it is the thread
  told_by : (k l : ℕ) → IsOrdered c → (times_in a c ≡ times_in_thread a s → times_in_frames a s.frames ≡ 0 → k ≡ l) → (k ≡ l → times_in_thread a s ≤ times_in a c → times_in a c ≡ times_in_thread a s) → is_reached_by_none_but c a t ≡ nat_eq k l
  told_by k l ordered alone other =
      alone_test c a t s ordered there
      ∙ same_tests (times_in a c) (times_in_thread a s) k l
      (λ h. alone h (freed_unframed (alone_test c a t s ordered there ∙ eq-eqb (times_in a c) (times_in_thread a s) h)))
      (λ h. other h within)

-- ---- configurations that are counted

pub counts_tell : (p : Program) (c : Config) (ns : List ℕ) → WellFormed p → IsOrdered c → IsTypedBySome p c → AreCounted ns c → TellOfEach p c ns
counts_tell p c ns w ordered typed counted t s there a frees live empty =
    let times = counted.times a in
    told_by p c t s a w typed there frees live empty (count_at ns a) (times_in_control a s.control) ordered (λ h none. omega arith) (λ h least. omega arith)
    ∙ sym (ap (is_named_just ns (λ b. times_in_control b s.control)) frees)

pub counts_tell_without_top : (p : Program) (c : Config) (ns : List ℕ) (t n : ℕ) (kept end : Thread) → WellFormed p → IsOrdered c → thread_at c t ≡ Some kept → IsTypedBySome p (with_thread c t (over end (below n kept))) → AreCountedBut (λ a. times_in_thread a (top_of n kept)) ns c → TellsAlone p (with_thread c t (over end (below n kept))) t (over end (below n kept)) (is_unnamed p ns end)
counts_tell_without_top p c ns t n kept end w ordered there typed counted a frees live empty =
    let whole : Thread = over end (below n kept) in
    let half : Config = with_thread c t whole in
    let times = counted.times a in
    let tops = exchanged_top c a t n kept end there in
    let frames = frames_join a end.frames (below n kept) in
    told_by p half t whole a w typed (there_after c t kept whole there) frees live empty (count_at ns a) 0 typed.typed.numbers.ordered (λ h none. omega arith) (λ h least. omega arith)
    ∙ sym (ap (is_named_just ns (λ b. 0)) frees)
