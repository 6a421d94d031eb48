-- What a replay answers.
use Rattle.std.specs.Prelude.{◌≡◌, ℕ, ◌<◌, ◌≤◌, ◌+◌, List, Option, Some, None, Result, replicate}
use Rattle.std.specs.declared.result.Result.TheVariants.{Ok, Err}
use Rattle.pat_semantics_spec.specs.Programs.{Program}
use Rattle.pat_semantics_spec.specs.Configs.{Config}
use Rattle.pat_semantics_spec.specs.Steps.{Act, step}
use Rattle.pat_semantics_spec.specs.Runs.{Entry, entry_steps, entry_from, run_from, replay_from, shared_step}
use Rattle.pat_machine_spec.specs.Commits.{local_of}
use Rattle.pat_machine_spec.specs.Refusals.{IsRefusedAt}
use Rattle.pat_reduce_values.specs.declared.error.StepError.{StepError}
use Rattle.pat_reduce_values.specs.declared.error.StepError.TheVariants as step_error
use Rattle.pat_reduce.specs.Views.{config_view}
use Rattle.pat_limits.specs.Limits.{most_number}
use Rattle.pat_replay.specs.declared.making.Reached.{Reached}
use Rattle.pat_replay.specs.declared.error.ReplayError.{ReplayError}
use Rattle.pat_replay.specs.declared.error.ReplayError.TheVariants as replay_error

-- the configuration to which the history leads from this one; or the entry that is refused; or memory ran out
abbrev pub ReplayGives : Program → Config → List Entry → Result Reached ReplayError → Type 0
ReplayGives p b es (Ok r) = replay_from p b es ≡ Some (config_view r.config)
ReplayGives p b es (Err (replay_error.RefusedAt i)) = IsRefusedAt p b es i
ReplayGives p b es (Err replay_error.NoMemory) = Unit {0}

-- what the entry makes of c is d; or it makes nothing, for one of its steps can't be taken, or it has none
abbrev pub EntryGives : Program → Config → Entry → Config → Result (Unit {0}) StepError → Type 0
EntryGives p c e d (Ok _) = entry_from p c (entry_steps e) ≡ Some d
EntryGives p c e d (Err step_error.Disabled) = entry_from p c (entry_steps e) ≡ None
EntryGives p c e d (Err step_error.NoMemory) = Unit {0}

-- what follows is d; or nothing does
abbrev pub LeadsTo : Option Config → Config → Result (Unit {0}) StepError → Type 0
LeadsTo after d (Ok _) = after ≡ Some d
LeadsTo after d (Err step_error.Disabled) = after ≡ None
LeadsTo after d (Err step_error.NoMemory) = Unit {0}

-- fewer than n local steps of the thread are enabled, one after another
pub record StopsBefore (p : Program) (c : Config) (t n : ℕ) : Type 0 where
  pub taken : ℕ
  pub fewer : taken < n
  pub last : Config
  pub run : run_from p c (replicate taken (local_of t)) ≡ Some last
  pub no_more : step p last (local_of t) ≡ None

-- so many local steps of the thread lead from c to d; or they stop before that
abbrev pub LocalsGive : Program → Config → (t n : ℕ) → Config → Result (Unit {0}) StepError → Type 0
LocalsGive p c t n d (Ok _) = run_from p c (replicate n (local_of t)) ≡ Some d
LocalsGive p c t n d (Err step_error.Disabled) = StopsBefore p c t n
LocalsGive p c t n d (Err step_error.NoMemory) = Unit {0}

-- the shared step, if there is one, leads from c to d; or it isn't enabled
abbrev pub SharedGives : Program → Config → ℕ → Option Act → Config → Result (Unit {0}) StepError → Type 0
SharedGives p c t a d (Ok _) = run_from p c (shared_step t a) ≡ Some d
SharedGives p c t a d (Err step_error.Disabled) = run_from p c (shared_step t a) ≡ None
SharedGives p c t a d (Err step_error.NoMemory) = Unit {0}

-- at most so many numbers of each kind are taken
pub record HasTaken (c : Config) (n : ℕ) : Type 0 where
  pub threads : c.next_thread ≤ n
  pub mailboxes : c.next_mailbox ≤ n
  pub messages : c.next_message ≤ n

-- so many numbers of each kind are left
pub record HasRoom (c : Config) (n : ℕ) : Type 0 where
  pub threads : c.next_thread + n ≤ most_number
  pub mailboxes : c.next_mailbox + n ≤ most_number
  pub messages : c.next_message + n ≤ most_number
