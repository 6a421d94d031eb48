-- What each step leaves of other threads, of numbers and of the count of messages.
use Rattle.std.proofs.Common.{◌≡◌, ℕ, ◌+◌, ◌≤◌, Bool, true, false, cond, not, nat_eq, List, [], ◌∷◌, length, Option, Some, None, refl, sym, ◌∙◌, subst, arith, length-append}
use Rattle.std.specs.Prelude.{option_and_then, filter}
use Rattle.pat_semantics_spec.specs.Programs.{Program}
use Rattle.pat_semantics_spec.specs.Configs.{Thread, Config, thread_at, with_thread}
use Rattle.pat_semantics_spec.specs.Steps.{Act, ActLocal, ActNew, ActSend, ActSpawn, ActPrint, ActEnd, ActFree, ActReceive, Step, step, redex, without_thread}
use Rattle.pat_semantics_spec.specs.Runs.{run_from}
use Rattle.pat_semantics_laws.proofs.Inversion.{step_of, print_step, new_step, receive_step, local_step_of, send_step, spawn_step, end_step, EndStep, end_value, end_return, free_step}
use Rattle.pat_machine_spec.specs.Lendings.{newcomer}
use Rattle.pat_machine_laws.proofs.CommitsLookUps.{lookup_set_other, lookup_remove_other, lookup_longer}

-- one for a send, none for another act
abbrev pub sent_by : Act → ℕ
sent_by ActSend = 1
sent_by _ = 0

-- other threads that are there stay, a number is taken by a spawn only, and a message comes by a send only
pub record Moves (c : Config) (t : ℕ) (a : Act) (d : Config) : Type 0 where
  pub others : (u : ℕ) (s : Thread) → (t ≡ u → ⊥) → thread_at c u ≡ Some s → thread_at d u ≡ Some s
  pub threads : d.next_thread ≡ c.next_thread + length (newcomer (Some a))
  pub mailboxes : d.next_mailbox ≤ c.next_mailbox + 1
  pub sends : d.next_message ≤ c.next_message + 1
  pub messages : length d.messages ≤ length c.messages + sent_by a

-- a filter keeps at most all
filter_shorter : {A : Type 0} (f : A → Bool) (xs : List A) → length (filter f xs) ≤ length xs
filter_shorter f [] = omega arith
filter_shorter f (x ∷ xs) =
    let rest = filter_shorter f xs in
    elim (f x) as (λ b. length (cond b (x ∷ filter f xs) (filter f xs)) ≤ length (x ∷ xs)) [ true ↦ omega arith | false ↦ omega arith ]

still : (c : Config) (t u : ℕ) (s r : Thread) → (t ≡ u → ⊥) → thread_at c u ≡ Some s → thread_at (with_thread c t r) u ≡ Some s
still c t u s r other h = lookup_set_other c.threads t u r other ∙ h

moved : (c : Config) (t : ℕ) (a : Act) (d e : Config) → d ≡ e → Moves c t a e → Moves c t a d
moved c t a d e same h = subst (Moves c t a) (sym same) h

pub ended : (p : Program) (c : Config) (t : ℕ) (s : Thread) (d : Config) → EndStep p c t s d → d ≡ without_thread c t
ended p c t s d (end_value e env at none is) = is
ended p c t s d (end_return v at none is) = is

-- act by act, since what a step keeps is read off its own result
act_moves : (p : Program) (c : Config) (t : ℕ) (a : Act) (d : Config) → step p c (record { thread = t; act = a }) ≡ Some d → Moves c t a d
act_moves p c t ActLocal d h =
    let o = step_of p c (record { thread = t; act = ActLocal }) d h in
    let q = local_step_of p c t o.thread d o.gives in
    moved c t ActLocal d (with_thread c t q.0) q.2 (record {
      others = λ u s other there. still c t u s q.0 other there;
      threads = omega arith;
      mailboxes = omega arith;
      sends = omega arith;
      messages = omega arith;
    })
act_moves p c t ActNew d h =
    let o = step_of p c (record { thread = t; act = ActNew }) d h in
    let q = new_step p c t o.thread d (redex p o.thread.control) refl o.gives in
    moved c t ActNew d _ q.result (record {
      others = λ u s other there. still c t u s _ other there;
      threads = omega arith;
      mailboxes = omega arith;
      sends = omega arith;
      messages = omega arith;
    })
act_moves p c t ActSend d h =
    let o = step_of p c (record { thread = t; act = ActSend }) d h in
    let q = send_step p c t o.thread d (redex p o.thread.control) refl o.gives in
    moved c t ActSend d _ q.result (record {
      others = λ u s other there. still c t u s _ other there;
      threads = omega arith;
      mailboxes = omega arith;
      sends = omega arith;
      messages = let l = length-append c.messages (record { number = c.next_message; mailbox = q.mailbox; tag = q.tag; values = q.values } ∷ []) in omega arith;
    })
act_moves p c t ActSpawn d h =
    let o = step_of p c (record { thread = t; act = ActSpawn }) d h in
    let q = spawn_step p c t o.thread d (redex p o.thread.control) refl o.gives in
    moved c t ActSpawn d _ q.result (record {
      others = λ u s other there. lookup_longer _ _ u s (still c t u s _ other there);
      threads = omega arith;
      mailboxes = omega arith;
      sends = omega arith;
      messages = omega arith;
    })
act_moves p c t ActPrint d h =
    let o = step_of p c (record { thread = t; act = ActPrint }) d h in
    let q = print_step p c t o.thread d (redex p o.thread.control) refl o.gives in
    moved c t ActPrint d _ q.result (record {
      others = λ u s other there. still c t u s _ other there;
      threads = omega arith;
      mailboxes = omega arith;
      sends = omega arith;
      messages = omega arith;
    })
act_moves p c t ActEnd d h =
    let o = step_of p c (record { thread = t; act = ActEnd }) d h in
    let q = ended p c t o.thread d (end_step p c t o.thread d o.thread.frames (redex p o.thread.control) refl refl o.gives) in
    moved c t ActEnd d (without_thread c t) q (record {
      others = λ u s other there. lookup_remove_other c.threads t u other ∙ there;
      threads = omega arith;
      mailboxes = omega arith;
      sends = omega arith;
      messages = omega arith;
    })
act_moves p c t ActFree d h =
    let o = step_of p c (record { thread = t; act = ActFree }) d h in
    let q = free_step p c t o.thread d (redex p o.thread.control) refl o.gives in
    moved c t ActFree d _ q.result (record {
      others = λ u s other there. still c t u s _ other there;
      threads = omega arith;
      mailboxes = omega arith;
      sends = omega arith;
      messages = omega arith;
    })
act_moves p c t (ActReceive k) d h =
    let o = step_of p c (record { thread = t; act = ActReceive k }) d h in
    let q = receive_step p c t k o.thread d (redex p o.thread.control) refl o.gives in
    moved c t (ActReceive k) d _ q.result (record {
      others = λ u s other there. still c t u s _ other there;
      threads = omega arith;
      mailboxes = omega arith;
      sends = omega arith;
      messages = let l = filter_shorter (λ m. not (nat_eq m.number q.message.number)) c.messages in omega arith;
    })

pub step_moves : (p : Program) (c : Config) (k : Step) (d : Config) → step p c k ≡ Some d → Moves c k.thread k.act d
step_moves p c k d h = act_moves p c k.thread k.act d h

-- numbers that were taken, at most so many of each kind
pub record Ahead (c : Config) (n : ℕ) (d : Config) : Type 0 where
  pub threads : d.next_thread ≤ c.next_thread + n
  pub mailboxes : d.next_mailbox ≤ c.next_mailbox + n
  pub messages : d.next_message ≤ c.next_message + n

one_newcomer : (a : Act) → length (newcomer (Some a)) ≤ 1
one_newcomer ActSpawn = omega arith
one_newcomer ActLocal = omega arith
one_newcomer ActNew = omega arith
one_newcomer ActSend = omega arith
one_newcomer ActPrint = omega arith
one_newcomer ActEnd = omega arith
one_newcomer ActFree = omega arith
one_newcomer (ActReceive k) = omega arith

-- a run takes at most one number of each kind for each of its steps
pub run_ahead : (p : Program) (ks : List Step) (c d : Config) → run_from p c ks ≡ Some d → Ahead c (length ks) d
run_ahead p [] c d h =
    let same : c ≡ d = cc in
    subst (Ahead c 0) same (record { threads = omega arith; mailboxes = omega arith; messages = omega arith })
run_ahead p (k ∷ ks) c d h = go (step p c k) refl h (λ e g. run_ahead p ks e d g)
  where
    go : (o : Option Config) → step p c k ≡ o → option_and_then (λ e. run_from p e ks) o ≡ Some d → ((e : Config) → run_from p e ks ≡ Some d → Ahead e (length ks) d) → Ahead c (length (k ∷ ks)) d
    go None is g ahead = cc
    go (Some e) is g ahead =
        let one = step_moves p c k e is in
        let rest = ahead e g in
        let new = one_newcomer k.act in
        record {
          threads = let a = one.threads in let b = rest.threads in omega arith;
          mailboxes = let a = one.mailboxes in let b = rest.mailboxes in omega arith;
          messages = let a = one.sends in let b = rest.messages in omega arith;
        }
