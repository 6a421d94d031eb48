-- The steps of an entry, part by part.
use Rattle.std.proofs.Common.{◌≡◌, ℕ, zero, suc, ◌+◌, ◌-◌, List, [], ◌∷◌, ◌++◌, Option, Some, None, refl, sym, ap, ◌∙◌, subst, arith}
use Rattle.std.specs.Prelude.{option_and_then, replicate}
use Rattle.std.proofs.lemmas.List.{replicate-append-replicate}
use Rattle.pat_semantics_spec.specs.Programs.{Program}
use Rattle.pat_semantics_spec.specs.Configs.{Config}
use Rattle.pat_semantics_spec.specs.Orders.{IsOrdered}
use Rattle.pat_semantics_spec.specs.Steps.{Act, Step, step}
use Rattle.pat_semantics_spec.specs.Runs.{Entry, run_from, shared_step, entry_steps, entry_from}
use Rattle.pat_semantics_laws.proofs.Inversion.{step_of, local_step_of}
use Rattle.pat_semantics_laws.proofs.Ordered.{run_keeps_order}
use Rattle.pat_semantics_laws.proofs.Replays.{runs_join, first_of}
use Rattle.pat_machine_spec.specs.Commits.{local_of}
use Rattle.pat_reduce.proofs.StepNumbers.{step_ahead}
use Rattle.pat_machine_laws.proofs.Runs.{run_then}
use Rattle.std.specs.Prelude.{Result}
use Rattle.std.specs.declared.result.Result.TheVariants.{Ok, Err}
use Rattle.pat_reduce_values.specs.declared.error.StepError.{StepError}
use Rattle.pat_reduce_values.specs.declared.error.StepError.TheVariants.{Disabled, NoMemory}
use Rattle.pat_limits.specs.Limits.{most_number}
use Rattle.pat_replay.specs.Replays.{HasTaken, HasRoom, StopsBefore, EntryGives, LocalsGive, SharedGives}

-- one more local step
pub one_more : (p : Program) (c d e : Config) (k : ℕ) (s : Step) → run_from p c (replicate k s) ≡ Some d → step p d s ≡ Some e → run_from p c (replicate (k + 1) s) ≡ Some e
one_more p c d e k s first last =
    ap (run_from p c) (sym (replicate-append-replicate k 1 s)) ∙ run_then p c d e (replicate k s) (s ∷ []) first (ap (option_and_then (λ x. run_from p x [])) last)

no_run : (p : Program) (c d : Config) (ks js : List Step) → run_from p c ks ≡ Some d → run_from p d js ≡ None → run_from p c (ks ++ js) ≡ None
no_run p c d ks js first second = runs_join p c ks js ∙ ap (option_and_then (λ d. run_from p d js)) first ∙ second

-- where the local steps stop, so does whatever begins with them
pub stopped : (p : Program) (c : Config) (t n : ℕ) (js : List Step) → StopsBefore p c t n → run_from p c (replicate n (local_of t) ++ js) ≡ None
stopped p c t n js s = go (n - s.taken) refl
  where
    go : (k : ℕ) → n - s.taken ≡ k → run_from p c (replicate n (local_of t) ++ js) ≡ None
    go zero is = let fewer = s.fewer in absurd (omega arith)
    go (suc k) is =
        let fewer = s.fewer in
        let whole : s.taken + suc k ≡ n = omega arith in
        let cut : replicate s.taken (local_of t) ++ (local_of t ∷ replicate k (local_of t)) ≡ replicate n (local_of t) = replicate-append-replicate s.taken (suc k) (local_of t) ∙ ap (λ m. replicate m (local_of t)) whole in
        runs_join p c (replicate n (local_of t)) js
        ∙ ap (option_and_then (λ d. run_from p d js))
        (ap (run_from p c) (sym cut)
        ∙ no_run p c s.last (replicate s.taken (local_of t)) (local_of t ∷ replicate k (local_of t)) s.run (ap (option_and_then (λ d. run_from p d (replicate k (local_of t)))) s.no_more))

-- a local step takes no number
local_taken : (p : Program) (c d : Config) (t k : ℕ) → step p c (local_of t) ≡ Some d → HasTaken c k → HasTaken d k
local_taken p c d t k h taken =
    let o = step_of p c (local_of t) d h in
    let q = local_step_of p c t o.thread d o.gives in
    subst (λ x. HasTaken x k) (sym q.2) (record { threads = taken.threads; mailboxes = taken.mailboxes; messages = taken.messages })

-- nor do several
pub locals_taken : (p : Program) (c d : Config) (t n k : ℕ) → run_from p c (replicate n (local_of t)) ≡ Some d → HasTaken c k → HasTaken d k
locals_taken p c d t zero k h taken = let same : c ≡ d = cc in subst (λ x. HasTaken x k) same taken
locals_taken p c d t (suc n) k h taken =
    let q = first_of (λ e. run_from p e (replicate n (local_of t))) d (step p c (local_of t)) h in
    locals_taken p q.0 d t n k q.2 (local_taken p c q.0 t k q.1 taken)

-- an entry with a step leads where its steps lead
entry_is : (p : Program) (c : Config) (ks : List Step) → (ks ≡ [] → ⊥) → entry_from p c ks ≡ run_from p c ks
entry_is p c [] h = absurd (h refl)
entry_is p c (k ∷ ks) h = refl

-- no step is no way on
pub no_entry : (p : Program) (c : Config) (ks : List Step) → ks ≡ [] → entry_from p c ks ≡ None
no_entry p c ks h = ap (entry_from p c) h

-- the shared step after the local ones
pub shared_last : (p : Program) (c m d : Config) (e : Entry) (r : Result (Unit {0}) StepError) → (entry_steps e ≡ [] → ⊥) → run_from p c (replicate e.local_steps (local_of e.thread)) ≡ Some m → SharedGives p m e.thread e.shared d r → EntryGives p c e d r
shared_last p c m d e (Ok _) some first last = entry_is p c (entry_steps e) some ∙ run_then p c m d (replicate e.local_steps (local_of e.thread)) (shared_step e.thread e.shared) first last
shared_last p c m d e (Err Disabled) some first last = entry_is p c (entry_steps e) some ∙ no_run p c m (replicate e.local_steps (local_of e.thread)) (shared_step e.thread e.shared) first last
shared_last p c m d e (Err NoMemory) some first last = tt

-- local steps that stop
pub locals_stop : (p : Program) (c m : Config) (e : Entry) (r : StepError) → (entry_steps e ≡ [] → ⊥) → LocalsGive p c e.thread e.local_steps m (Err r) → EntryGives p c e m (Err r)
locals_stop p c m e Disabled some h = entry_is p c (entry_steps e) some ∙ stopped p c e.thread e.local_steps (shared_step e.thread e.shared) h
locals_stop p c m e NoMemory some h = tt

-- a shared step takes one number of each kind at most
shared_taken : (p : Program) (c d : Config) (t : ℕ) (a : Option Act) (n : ℕ) → run_from p c (shared_step t a) ≡ Some d → HasTaken c n → HasTaken d (n + 1)
shared_taken p c d t None n h taken =
    let same : c ≡ d = cc in
    subst (λ x. HasTaken x (n + 1)) same (record { threads = let less = taken.threads in omega arith; mailboxes = let less = taken.mailboxes in omega arith; messages = let less = taken.messages in omega arith })
shared_taken p c d t (Some a) n h taken =
    let q = first_of (λ e. run_from p e []) d (step p c (record { thread = t; act = a })) h in
    let same : q.0 ≡ d = let s = q.2 in cc in
    let ahead = step_ahead p c q.0 (record { thread = t; act = a }) q.1 in
    subst (λ x. HasTaken x (n + 1)) same (record {
      threads = let less = taken.threads in let one = ahead.threads in omega arith;
      mailboxes = let less = taken.mailboxes in let one = ahead.mailboxes in omega arith;
      messages = let less = taken.messages in let one = ahead.messages in omega arith;
    })

pub of_entry : (p : Program) (c d : Config) (ks : List Step) → entry_from p c ks ≡ Some d → run_from p c ks ≡ Some d
of_entry p c d [] h = cc
of_entry p c d (k ∷ ks) h = h

-- so does an entry
pub numbers_on : (p : Program) (c d : Config) (e : Entry) (n : ℕ) → entry_from p c (entry_steps e) ≡ Some d → HasTaken c n → HasTaken d (n + 1)
numbers_on p c d e n h taken =
    let locals = replicate e.local_steps (local_of e.thread) in
    let run = sym (runs_join p c locals (shared_step e.thread e.shared)) ∙ of_entry p c d (entry_steps e) h in
    let q = first_of (λ m. run_from p m (shared_step e.thread e.shared)) d (run_from p c locals) run in
    shared_taken p q.0 d e.thread e.shared n q.2 (locals_taken p c q.0 e.thread e.local_steps n q.1 taken)

-- and leads from order to order
pub order_on : (p : Program) (c d : Config) (e : Entry) → IsOrdered c → entry_from p c (entry_steps e) ≡ Some d → IsOrdered d
order_on p c d e o h = run_keeps_order p (entry_steps e) c d o (of_entry p c d (entry_steps e) h)

-- and takes one number of each kind at most of those that are left
pub room_on : (p : Program) (c d : Config) (e : Entry) (n : ℕ) → entry_from p c (entry_steps e) ≡ Some d → HasRoom c (suc n) → HasRoom d n
room_on p c d e n h room =
    let threads = room.threads in
    let mailboxes = room.mailboxes in
    let messages = room.messages in
    let m : ℕ = most_number - suc n in
    let taken = numbers_on p c d e m h (record { threads = omega (arith, threads); mailboxes = omega (arith, mailboxes); messages = omega (arith, messages) }) in
    record {
      threads = let less = taken.threads in omega (arith, threads, less);
      mailboxes = let less = taken.mailboxes in omega (arith, mailboxes, less);
      messages = let less = taken.messages in omega (arith, messages, less);
    }

-- one that is left is there to be taken
pub room_taken : (c : Config) (n : ℕ) → HasRoom c (suc n) → HasTaken c 4294967294
room_taken c n room = record {
  threads = let left = room.threads in omega (arith, left);
  mailboxes = let left = room.mailboxes in omega (arith, left);
  messages = let left = room.messages in omega (arith, left);
}
