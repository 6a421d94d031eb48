-- Commits: the steps that one job makes of the kept state of its thread.
use Rattle.std.specs.Prelude.{◌≡◌, ℕ, suc, zero, ◌<◌, ◌≤◌, List, [], ◌∷◌, ◌++◌, length, Option, Some, None, option_and_then, nat_eq, if◌then◌else◌}
use Rattle.pat_semantics_spec.specs.Programs.{Program}
use Rattle.pat_semantics_spec.specs.Configs.{Thread, Config, thread_at, with_thread}
use Rattle.pat_semantics_spec.specs.Steps.{Act, ActLocal, ActReceive, Step, local_step}
use Rattle.pat_semantics_spec.specs.Runs.{Entry, run_from, shared_step, entry_steps}
use Rattle.pat_semantics_laws.specs.Laws.{IsEnabled}
use Rattle.pat_machine_spec.specs.Opens.{IsOpen, IsStill}

abbrev pub local_of : ℕ → Step
local_of t = record { thread = t; act = ActLocal }

-- the thread after so many local steps, or nothing where one isn't there
abbrev pub locally : Program → ℕ → Thread → Option Thread
locally p zero s = Some s
locally p (suc k) s = option_and_then (locally p k) (local_step p s)

-- k local steps lead the thread from s to r: all that the allowance allows, or as many as there are
pub record IsLocalRun (p : Program) (allowance : ℕ) (s : Thread) (k : ℕ) (r : Thread) : Type 0 where
  pub taken : locally p k s ≡ Some r
  pub within : k ≤ allowance
  pub whole : k < allowance → local_step p r ≡ None

-- where the act is a receive, no lesser message may be received by the thread
abbrev pub ReceivesLeast : Program → Config → ℕ → Option Act → Type 0
ReceivesLeast p c t a = (k m : ℕ) → a ≡ Some (ActReceive k) → IsEnabled p c (record { thread = t; act = ActReceive m }) → k ≤ m

-- the step of the thread, if there is one, is open, leads from c to d, and receives the least message that it may be of;
-- there is none only where no step of the thread is open
pub record Shares (p : Program) (limit : ℕ) (c : Config) (t : ℕ) (a : Option Act) (d : Config) : Type 0 where
  pub taken : run_from p c (shared_step t a) ≡ Some d
  pub allowed : (b : Act) → a ≡ Some b → IsOpen p c limit (record { thread = t; act = b })
  pub least : ReceivesLeast p c t a
  pub none : a ≡ None → IsStill p c limit t

-- a job with this allowance, started on the thread as it was kept, writes this entry: it goes on alone for as long as it can,
-- and takes the open shared step only if that leaves it within the allowance
pub record IsCommit (p : Program) (allowance limit : ℕ) (c : Config) (e : Entry) (d : Config) : Type 0 where
  pub kept : Thread
  pub middle : Thread
  pub there : thread_at c e.thread ≡ Some kept
  pub local : IsLocalRun p allowance kept e.local_steps middle
  pub shared : e.local_steps < allowance → Shares p limit (with_thread c e.thread middle) e.thread e.shared d
  pub spent : e.local_steps ≡ allowance → (e.shared ≡ None) × (d ≡ with_thread c e.thread middle)

-- the history with the entry, if it has a step
abbrev pub noted : List Entry → Entry → List Entry
noted es e = if nat_eq (length (entry_steps e)) 0 then es else es ++ e ∷ []
