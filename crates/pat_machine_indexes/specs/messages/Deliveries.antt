-- The message that a thread receives.
use Rattle.std.specs.Prelude.{◌≡◌, ℕ, Bool, nat_eq, is_some, find, List, Option, Some, slice_get}
use Rattle.pat_semantics_spec.specs.Programs.{Program, Clause}
use Rattle.pat_semantics_spec.specs.Configs.{Control, Message}
use Rattle.pat_semantics_spec.specs.Steps.{Redex}
use Rattle.pat_machine_laws.specs.mailbox_index.Pending.{messages_of, pending_at}
use Rattle.std.specs.Borrow.{Bor}
use Rattle.pat_reduce.specs.declared.threads.state.Message.{Message as Pending}
use Rattle.pat_mailboxes.specs.queues.Lanes.{lane_of}
use Rattle.pat_reduce.specs.threads.ThreadActs.{redex_received}

-- the message of this number is pending at this place, and the control goes on with it
pub record IsDelivery (p : Program) (boxes : List (Option (List Message))) (r : Redex) (number mailbox place : ℕ) (control : Control) : Type 0 where
  pub message : Message
  pub there : slice_get (pending_at boxes mailbox) place ≡ Some message
  pub numbered : message.number ≡ number
  pub goes_on : redex_received p (messages_of boxes) number r ≡ Some control

-- whether a clause receives messages of the lane
abbrev pub has_lane : ℕ → List Clause → Bool
has_lane lane cs = is_some (find (λ c. nat_eq (lane_of c.tag) lane) cs)

-- a message that is pending, and has the number
abbrev pub IsNumbered : List Pending → ℕ → Bor Pending → Type 0
IsNumbered ms k m = (place : ℕ) × (slice_get ms place ≡ Some m.now) × (m.now.number ≡ k)
