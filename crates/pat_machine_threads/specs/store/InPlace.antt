-- A step of a thread that stays in its place, where what it sends, makes or frees is kept elsewhere.
use Rattle.std.specs.Prelude.{◌≡◌, ℕ, ◌+◌, true, false, Option, Some, None, option_and_then, Result}
use Rattle.std.specs.declared.result.Result.TheVariants.{Ok, Err}
use Rattle.pat_semantics_spec.specs.Values.{Mailbox}
use Rattle.pat_semantics_spec.specs.Programs.{Program}
use Rattle.pat_semantics_spec.specs.Configs.{Control, Returned, Thread, Message, Config, thread_at, with_thread}
use Rattle.pat_semantics_spec.specs.Steps.{Redex, redex, at_node, thread_of, returned_unit}
use Rattle.pat_reduce_values.specs.declared.error.StepError.{StepError}
use Rattle.pat_reduce_values.specs.declared.error.StepError.TheVariants.{Disabled, NoMemory}
use Rattle.pat_reduce.specs.declared.threads.state.Message.{Message as CodeMessage}
use Rattle.pat_reduce.specs.threads.ThreadActs.{Guarding, guard_at, is_new, redex_message}
use Rattle.pat_reduce.specs.threads.ThreadViews.{message_view}

-- where the thread stands, if it is there, is nothing of this kind
abbrev pub HasNone : {A : Type 0} → Program → Config → (thread : ℕ) → (Redex → Option A) → Type 0
HasNone p c t found = (s : Thread) → thread_at c t ≡ Some s → found (redex p s.control) ≡ None

-- ---- a send

-- the thread sent the message, which is under the next number and pending nowhere
pub record IsSent (p : Program) (c : Config) (t : ℕ) (m : Message) (d : Config) : Type 0 where
  pub thread : Thread
  pub there : thread_at c t ≡ Some thread
  pub message : redex_message c.next_message (redex p thread.control) ≡ Some m
  pub after : d ≡ record (with_thread c t (returned_unit thread.frames)) { next_message = c.next_message + 1 }

-- it sent the message, or it sends none, or memory ran out; an `Err` changes nothing
abbrev pub SendsOut : Program → (old : Config) → (thread : ℕ) → (new : Config) → Result CodeMessage StepError → Type 0
SendsOut p c t d (Ok m) = IsSent p c t (message_view m) d
SendsOut p c t d (Err Disabled) = HasNone p c t (redex_message c.next_message) × (d ≡ c)
SendsOut p c t d (Err NoMemory) = d ≡ c

-- ---- a new mailbox

-- the thread made the mailbox of the next number, which is listed nowhere
pub record IsMade (p : Program) (c : Config) (t : ℕ) (d : Config) : Type 0 where
  pub thread : Thread
  pub there : thread_at c t ≡ Some thread
  pub makes : is_new (redex p thread.control) ≡ true
  pub after : d ≡ record (with_thread c t (thread_of (Returned (Mailbox c.next_mailbox)) thread.frames)) { next_mailbox = c.next_mailbox + 1 }

-- it made the mailbox, or it makes none, or memory ran out; an `Err` changes nothing
abbrev pub MakesOut : Program → (old : Config) → (thread : ℕ) → (new : Config) → Result (Unit {0}) StepError → Type 0
MakesOut p c t d (Ok u) = IsMade p c t d
MakesOut p c t d (Err Disabled) = ((s : Thread) → thread_at c t ≡ Some s → is_new (redex p s.control) ≡ false) × (d ≡ c)
MakesOut p c t d (Err NoMemory) = d ≡ c

-- ---- a free

-- the guard's mailbox, and the control that goes on once it is freed, if the guard has a clause for that
abbrev pub frees_by : Program → Guarding → Option ℕ → Option (ℕ × Control)
frees_by p g None = None
frees_by p g (Some n) = Some (g.mailbox, at_node p n g.env)

-- the same of the guard that stands there
abbrev pub redex_frees : Program → Redex → Option (ℕ × Control)
redex_frees p r = option_and_then (λ g. frees_by p g g.free) (guard_at r)

-- the thread goes on as if the mailbox had been freed
pub record IsFreed (p : Program) (c : Config) (t a : ℕ) (d : Config) : Type 0 where
  pub thread : Thread
  pub there : thread_at c t ≡ Some thread
  pub control : Control
  pub frees : redex_frees p (redex p thread.control) ≡ Some (a, control)
  pub after : d ≡ with_thread c t (thread_of control thread.frames)

-- it goes on, or it stands at no guard that frees, or memory ran out; an `Err` changes nothing
abbrev pub FreesOut : Program → (old : Config) → (thread : ℕ) → (new : Config) → Result ℕ StepError → Type 0
FreesOut p c t d (Ok a) = IsFreed p c t a d
FreesOut p c t d (Err Disabled) = HasNone p c t (redex_frees p) × (d ≡ c)
FreesOut p c t d (Err NoMemory) = d ≡ c
