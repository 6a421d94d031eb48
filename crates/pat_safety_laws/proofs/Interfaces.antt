-- The interfaces of mailboxes along steps, and that only those of live mailboxes matter.
use Rattle.std.proofs.Common.{◌≡◌, ℕ, ◌<◌, ◌≤◌, true, nat_eq, List, [], ◌∷◌, ◌++◌, Option, Some, None, refl, sym, ap, ◌∙◌, subst, arith}
use Rattle.std.specs.Prelude.{option_map, unwrap_or}
use Rattle.std.specs.List.{list_any}
use Rattle.std.proofs.lemmas.Bool.{ne_eqb, cond-false}
use Rattle.pat_semantics_spec.specs.Programs.{Program, is_among}
use Rattle.pat_semantics_spec.specs.Configs.{Config, thread_at, pending}
use Rattle.pat_semantics_spec.specs.Steps.{Act, ActLocal, ActNew, ActSend, ActSpawn, ActPrint, ActEnd, ActFree, ActReceive, Step, step, redex}
use Rattle.pat_semantics_spec.specs.Runs.{run_from}
use Rattle.pat_semantics_laws.proofs.Replays.{first_of}
use Rattle.pat_semantics_laws.proofs.Inversion.{step_of, print_step, new_step, receive_step, local_step_of, send_step, spawn_step, end_step, free_step}
use Rattle.pat_type_system_spec.specs.Typings.{Typing}
use Rattle.pat_type_system_spec.specs.Holdings.{threads_held, Balanced}
use Rattle.pat_type_system_spec.specs.Typed.{IsTyped}
use Rattle.pat_type_system_spec.specs.Interfaces.{with_interface, made_by, interfaces_after, interfaces_along}
use Rattle.pat_safety_laws.proofs.Agree.{threads_agree, messages_agree, messages_held, touched_live, touches}
use Rattle.pat_safety_laws.proofs.EndKeeps.{ended_frames}

-- the next number of a mailbox never falls
mailboxes_grow : (p : Program) (c : Config) (t : ℕ) (a : Act) (d : Config) → step p c (record { thread = t; act = a }) ≡ Some d → c.next_mailbox ≤ d.next_mailbox
mailboxes_grow p c t ActLocal d h =
    let w = step_of p c (record { thread = t; act = ActLocal }) d h in
    let q = ap (λ (x : Config). x.next_mailbox) (local_step_of p c t w.thread d w.gives).2 in omega arith
mailboxes_grow p c t ActNew d h =
    let w = step_of p c (record { thread = t; act = ActNew }) d h in
    let q = ap (λ (x : Config). x.next_mailbox) (new_step p c t w.thread d (redex p w.thread.control) refl w.gives).result in omega arith
mailboxes_grow p c t ActSend d h =
    let w = step_of p c (record { thread = t; act = ActSend }) d h in
    let q = ap (λ (x : Config). x.next_mailbox) (send_step p c t w.thread d (redex p w.thread.control) refl w.gives).result in omega arith
mailboxes_grow p c t ActSpawn d h =
    let w = step_of p c (record { thread = t; act = ActSpawn }) d h in
    let q = ap (λ (x : Config). x.next_mailbox) (spawn_step p c t w.thread d (redex p w.thread.control) refl w.gives).result in omega arith
mailboxes_grow p c t ActPrint d h =
    let w = step_of p c (record { thread = t; act = ActPrint }) d h in
    let q = ap (λ (x : Config). x.next_mailbox) (print_step p c t w.thread d (redex p w.thread.control) refl w.gives).result in omega arith
mailboxes_grow p c t ActEnd d h =
    let w = step_of p c (record { thread = t; act = ActEnd }) d h in
    let q = ap (λ (x : Config). x.next_mailbox) (ended_frames p c d t w.thread (end_step p c t w.thread d w.thread.frames (redex p w.thread.control) refl refl w.gives)).1 in omega arith
mailboxes_grow p c t ActFree d h =
    let w = step_of p c (record { thread = t; act = ActFree }) d h in
    let q = ap (λ (x : Config). x.next_mailbox) (free_step p c t w.thread d (redex p w.thread.control) refl w.gives).result in omega arith
mailboxes_grow p c t (ActReceive k) d h =
    let w = step_of p c (record { thread = t; act = ActReceive k }) d h in
    let q = ap (λ (x : Config). x.next_mailbox) (receive_step p c t k w.thread d (redex p w.thread.control) refl w.gives).result in omega arith

-- another mailbox keeps its interface
with_same : (n : ℕ) (o : Option ℕ) (interfaces : ℕ → ℕ) (a : ℕ) → a < n → with_interface n o interfaces a ≡ interfaces a
with_same n None interfaces a h = refl
with_same n (Some i) interfaces a h = cond-false (nat_eq a n) i (interfaces a) (ne_eqb a n (λ e. omega arith))

-- the interfaces along an enabled step and the steps behind it
pub along_step : (p : Program) (c d : Config) (k : Step) (ks : List Step) (interfaces : ℕ → ℕ) → step p c k ≡ Some d → interfaces_along p c (k ∷ ks) interfaces ≡ interfaces_along p d ks (interfaces_after p c k interfaces)
along_step p c d k ks interfaces h = ap (λ o. unwrap_or (option_map (λ d. interfaces_along p d ks (interfaces_after p c k interfaces)) o) interfaces) h

pub interfaces_stay : (p : Program) (interfaces : ℕ → ℕ) (ks : List Step) (c d : Config) → run_from p c ks ≡ Some d → (a : ℕ) → a < c.next_mailbox → interfaces_along p c ks interfaces a ≡ interfaces a
interfaces_stay p interfaces [] c d h a below = refl
interfaces_stay p interfaces (k ∷ ks) c d h a below =
    let q = first_of (λ e. run_from p e ks) d (step p c k) h in
    let grown = mailboxes_grow p c k.thread k.act q.0 q.1 in
    ap (λ (f : ℕ → ℕ). f a) (along_step p c q.0 k ks interfaces q.1)
    ∙ interfaces_stay p (interfaces_after p c k interfaces) ks q.0 d q.2 a (omega arith)
    ∙ with_same c.next_mailbox (made_by p k.act (thread_at c k.thread)) interfaces a below

pub interfaces_join : (p : Program) (interfaces : ℕ → ℕ) (ks ls : List Step) (c d : Config) → run_from p c ks ≡ Some d → interfaces_along p c (ks ++ ls) interfaces ≡ interfaces_along p d ls (interfaces_along p c ks interfaces)
interfaces_join p interfaces [] ls c d h = let same : c ≡ d = cc in ap (λ x. interfaces_along p x ls interfaces) same
interfaces_join p interfaces (k ∷ ks) ls c d h =
    let q = first_of (λ e. run_from p e ks) d (step p c k) h in
    along_step p c q.0 k (ks ++ ls) interfaces q.1
    ∙ interfaces_join p (interfaces_after p c k interfaces) ks ls q.0 d q.2
    ∙ ap (interfaces_along p d ls) (sym (along_step p c q.0 k ks interfaces q.1))

pub live_matter : (p : Program) (y : Typing) (interfaces others : ℕ → ℕ) (c : Config) → IsTyped p y interfaces c → ((a : ℕ) → is_among a c.live ≡ true → others a ≡ interfaces a) → IsTyped p y others c
live_matter p y interfaces others c typed agree =
    let sent : (a : ℕ) → list_any (touches interfaces others a) c.messages ≡ true → others a ≡ interfaces a =
    λ a h. agree a (typed.numbers.messages_live a (touched_live interfaces others a c.messages h)) in
    record {
      typing = typed.typing;
      numbers = typed.numbers;
      threads = threads_agree interfaces others p y c.threads (λ a h. agree a (typed.numbers.threads_live a h)) typed.threads;
      messages = messages_agree interfaces others p c.messages sent typed.messages;
      balanced = λ a live. subst (λ l. Balanced (threads_held p y a c.threads ++ l) (pending c a)) (sym (messages_held interfaces others p a c.messages sent)) (typed.balanced a live);
    }
