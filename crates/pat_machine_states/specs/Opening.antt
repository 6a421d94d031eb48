-- The open act of a thread.
use Rattle.std.specs.Prelude.{◌≡◌, ℕ, Bool, false, Option, Some, None}
use Rattle.pat_semantics_spec.specs.Programs.{Program}
use Rattle.pat_semantics_spec.specs.Configs.{Config}
use Rattle.pat_semantics_spec.specs.Orders.{IsOrdered}
use Rattle.pat_semantics_spec.specs.Steps.{Act}
use Rattle.pat_semantics_spec.specs.Runs.{is_send}
use Rattle.pat_machine_spec.specs.Opens.{IsOpen, IsStill}
use Rattle.pat_machine_spec.specs.Commits.{ReceivesLeast}

-- the act is open, and in order it receives the least message that it may be of; there is none only where no step of the thread is open
pub record OpenAct (p : Program) (c : Config) (limit t : ℕ) (o : Option Act) : Type 0 where
  pub allowed : (b : Act) → o ≡ Some b → IsOpen p c limit (record { thread = t; act = b })
  pub least : IsOrdered c → ReceivesLeast p c t o
  pub none : o ≡ None → IsStill p c limit t

-- whether the act is a send
abbrev pub is_sending : Option Act → Bool
is_sending None = false
is_sending (Some a) = is_send a
