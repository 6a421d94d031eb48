-- What is always true of a machine: of its history, its configuration, its steps and the jobs that are out.
use Rattle.std.specs.Prelude.{◌≡◌, ℕ, ◌+◌, ◌<◌, ◌≤◌, List, length, take, Some}
use Rattle.pat_semantics_spec.specs.Programs.{Program}
use Rattle.pat_semantics_spec.specs.WellFormed.{WellFormed}
use Rattle.pat_semantics_spec.specs.Configs.{Thread, Config, thread_at}
use Rattle.pat_semantics_spec.specs.Runs.{Entry, IsHistory, replay, step_count}
use Rattle.pat_type_system_spec.specs.Typings.{Typing}
use Rattle.pat_type_system_spec.specs.Typed.{IsTyped}
use Rattle.pat_machine_spec.specs.Lendings.{Out, allowance_of, allowances}
use Rattle.pat_limits.specs.Limits.{most_number, most_steps}

-- after each prefix of the history at most so many messages are pending
abbrev pub StaysWithin : Program → (limit : ℕ) → List Entry → Type 0
StaysWithin p limit es = (k : ℕ) (d : Config) → replay p (take k es) ≡ Some d → length d.messages ≤ limit

-- some typing of the program types the configuration, where mailboxes have some interfaces
pub record IsTypedBySome (p : Program) (c : Config) : Type 0 where
  pub typing : Typing
  pub interfaces : ℕ → ℕ
  pub typed : IsTyped p typing interfaces c

-- the history replays to the configuration, which is typed; no entry has a local step as its shared act; the steps in the history,
-- the steps left and the allowances out are the budget; and after each prefix of the history the limit on messages is kept
pub record MachineFacts (p : Program) (budget limit : ℕ) (c : Config) (es : List Entry) (left : ℕ) (out : Out) : Type 0 where
  pub replayed : replay p es ≡ Some c
  pub history : IsHistory es
  pub typed : IsTypedBySome p c
  pub counted : step_count es + left + allowances out ≡ budget
  pub limited : StaysWithin p limit es

-- each thread that is out is there and has a step of its allowance, and there is an entry for each thread that was ever made
pub record TableFits (c : Config) (out : Out) : Type 0 where
  pub whole : length out ≡ c.next_thread
  pub some : (t n : ℕ) → allowance_of out t ≡ Some n → 0 < n
  pub there : (t n : ℕ) → allowance_of out t ≡ Some n → (s : Thread) × (thread_at c t ≡ Some s)

-- what a machine keeps
pub record MachineInvariant (p : Program) (budget limit : ℕ) (c : Config) (es : List Entry) (left : ℕ) (out : Out) : Type 0 where
  pub well : WellFormed p
  pub small : budget ≤ most_steps
  pub space : 0 < limit
  pub facts : MachineFacts p budget limit c es left out
  pub table : TableFits c out

-- there is a further number of each kind
pub record HasRoom (c : Config) : Type 0 where
  pub threads : c.next_thread < most_number
  pub mailboxes : c.next_mailbox < most_number
  pub messages : c.next_message < most_number
