-- Each part of a typed configuration names a mailbox at most once.
use Rattle.std.proofs.Common.{◌≡◌, ℕ, suc, ◌+◌, ◌≤◌, Bool, true, false, nat_eq, List, [], ◌∷◌, length, Some, refl, sym, ap, ◌∙◌, subst, arith}
use Rattle.std.specs.List.{AllByRecursion, IsDistinct}
use Rattle.std.specs.Map.{lookup, keys_of}
use Rattle.std.proofs.lemmas.Bool.{cond-true, cond-false, eqb-true, eq-eqb, ne_eqb, false_from_ne_true}
use Rattle.pat_semantics_spec.specs.Values.{Value, Const, Mailbox, Env, value_at}
use Rattle.pat_semantics_spec.specs.Programs.{Program}
use Rattle.pat_semantics_spec.specs.WellFormed.{count_if, count_among}
use Rattle.pat_semantics_spec.specs.Configs.{Control, Running, Returned, Frame, Thread, Message, Config, is_mailbox, env_refers}
use Rattle.pat_semantics_spec.specs.Orders.{AscendsFrom}
use Rattle.pat_semantics_laws.proofs.Lists.{distinct_parts}
use Rattle.pat_semantics_laws.proofs.Ascending.{value_above}
use Rattle.pat_type_system_spec.specs.Typings.{Typing}
use Rattle.pat_type_system_spec.specs.Typed.{ControlFits, FramesFit, ThreadFits, MessageFits, mailboxes_of}
use Rattle.pat_machine_spec.specs.Machines.{IsTypedBySome}
use Rattle.pat_safety_laws.proofs.Refers.{is_mailbox_same}
use Rattle.pat_safety_laws.proofs.Narrow.{refers_value}
use Rattle.pat_machine_laws.specs.refcounts.Naming.{times_in_values, times_in_env, times_in_control, times_in_frames, times_in_thread, times_in_messages, sum_of_threads, times_in, parts_of, parts_in}
use Rattle.pat_machine_laws.proofs.Tells.{env_tells}

one_at_most : (b : Bool) → count_if b ≤ 1
one_at_most true = omega arith
one_at_most false = omega arith

module _ (a : ℕ) where
  -- only one variable names the mailbox
  abbrev OneNames : Env → Type 0
  OneNames env = (x z : ℕ) → value_at env x ≡ Some (Mailbox a) → value_at env z ≡ Some (Mailbox a) → x ≡ z

  env_once : (n : ℕ) (env : Env) → AscendsFrom n (keys_of env) → OneNames env → times_in_env a env ≤ 1
  env_once n [] up one = omega arith
  env_once n (e ∷ env) up one =
      let behind : (z : ℕ) → value_at env z ≡ Some (Mailbox a) → value_at (e ∷ env) z ≡ Some (Mailbox a) =
      λ z q. let above = value_above (suc e.0) env z (Mailbox a) up.1 q in cond-false (nat_eq z e.0) (Some e.1) (lookup (nat_eq z) env) (ne_eqb z e.0 (λ w. omega arith)) ∙ q in
      (elim (is_mailbox a e.1) as (λ v. is_mailbox a e.1 ≡ v → count_if v + times_in_env a env ≤ 1) [
        | true ↦ λ q.
            let front : value_at (e ∷ env) e.0 ≡ Some (Mailbox a) =
            cond-true (nat_eq e.0 e.0) (Some e.1) (lookup (nat_eq e.0) env) (eq-eqb e.0 e.0 refl) ∙ ap (λ (v : Value). Some v) (is_mailbox_same a e.1 q) in
            let none : env_refers a env ≡ false =
            false_from_ne_true (env_refers a env) (λ on.
            let other = refers_value a (suc e.0) env up.1 on in
            let above = value_above (suc e.0) env other.0 (Mailbox a) up.1 other.1 in
            let same = one e.0 other.0 front (behind other.0 other.1) in
            omega arith) in
            let rest = (env_tells a env).none none in
            omega arith
        | false ↦ λ q. let rest = env_once (suc e.0) env up.1 (λ x z k l. one x z (behind x k) (behind z l)) in omega arith
      ]) refl

  apart_uncounted : (xs : List ℕ) → AllByRecursion (λ x. nat_eq a x ≡ false) xs → count_among a xs ≡ 0
  apart_uncounted [] h = refl
  apart_uncounted (x ∷ xs) h = let here = ap count_if h.0 in let rest = apart_uncounted xs h.1 in omega arith

  distinct_once : (xs : List ℕ) → IsDistinct nat_eq xs → count_among a xs ≤ 1
  distinct_once [] d = omega arith
  distinct_once (x ∷ xs) d =
      let q = distinct_parts x xs d in
      (elim (nat_eq a x) as (λ v. nat_eq a x ≡ v → count_if v + count_among a xs ≤ 1) [
        | true ↦ λ w. let rest = apart_uncounted xs (subst (λ k. AllByRecursion (λ z. nat_eq k z ≡ false) xs) (sym (eqb-true a x w)) q.0) in omega arith
        | false ↦ λ w. let rest = distinct_once xs q.1 in omega arith
      ]) refl

  values_counted : (vs : List Value) → times_in_values a vs ≡ count_among a (mailboxes_of vs)
  values_counted [] = refl
  values_counted (Const c ∷ vs) = let rest = values_counted vs in omega arith
  values_counted (Mailbox b ∷ vs) = let rest = values_counted vs in omega arith

module _ (p : Program) (y : Typing) (interfaces : ℕ → ℕ) (a : ℕ) where
  control_once : (k : Control) (fs : List Frame) → ControlFits p y interfaces k fs → times_in_control a k ≤ 1
  control_once (Running n env) fs h = env_once a 0 env h.0.keys (λ x z. h.0.different x z a)
  control_once (Returned v) fs h = one_at_most (is_mailbox a v)

  frames_once : (fs : List Frame) → FramesFit p y interfaces fs → times_in_frames a fs ≤ length fs
  frames_once [] h = omega arith
  frames_once (f ∷ fs) h =
      let first = env_once a 0 f.env h.1.keys (λ x z. h.1.different x z a) in
      let rest = frames_once fs h.3 in
      omega arith

  thread_once : (s : Thread) → ThreadFits p y interfaces s → times_in_thread a s ≤ parts_of s
  thread_once s h =
      let control = control_once s.control s.frames h.control in
      let frames = frames_once s.frames h.frames in
      omega arith

  threads_once : (ts : List (ℕ × Thread)) → AllByRecursion (λ e. ThreadFits p y interfaces e.1) ts → sum_of_threads (times_in_thread a) ts ≤ sum_of_threads parts_of ts
  threads_once [] h = omega arith
  threads_once (e ∷ es) h =
      let first = thread_once e.1 h.0 in
      let rest = threads_once es h.1 in
      omega arith

  message_once : (m : Message) → MessageFits p interfaces m → times_in_values a m.values ≤ 1
  message_once m h =
      let counted = values_counted a m.values in
      let few = distinct_once a (mailboxes_of m.values) (distinct_parts m.mailbox (mailboxes_of m.values) h.different).1 in
      omega arith

  messages_once : (ms : List Message) → AllByRecursion (MessageFits p interfaces) ms → times_in_messages a ms ≤ length ms
  messages_once [] h = omega arith
  messages_once (m ∷ ms) h =
      let first = message_once m h.0 in
      let rest = messages_once ms h.1 in
      omega arith

pub typed_once : (p : Program) (c : Config) (a : ℕ) → IsTypedBySome p c → times_in a c ≤ parts_in c
typed_once p c a w =
    let threads = threads_once p w.typing w.interfaces a c.threads w.typed.threads in
    let messages = messages_once p w.typing w.interfaces a c.messages w.typed.messages in
    omega arith
