-- How many numbers of threads, mailboxes and messages steps take.
use Rattle.std.specs.Prelude.{ℕ, ◌+◌, ◌≤◌}
use Rattle.pat_semantics_spec.specs.Configs.{Config}

-- at most n numbers of each kind were taken from c to d
pub record Within (c : Config) (n : ℕ) (d : Config) : Type 0 where
  pub threads : d.next_thread ≤ c.next_thread + n
  pub mailboxes : d.next_mailbox ≤ c.next_mailbox + n
  pub messages : d.next_message ≤ c.next_message + n
