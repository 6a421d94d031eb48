-- The state of a job's thread after its local steps, and the end of its commit.
use Rattle.std.specs.Prelude.{◌≡◌, ℕ, ◌<◌, Option, Some, None}
use Rattle.pat_semantics_spec.specs.Programs.{Program}
use Rattle.pat_semantics_spec.specs.Configs.{Thread, Config, thread_at, with_thread}
use Rattle.pat_semantics_spec.specs.Steps.{Act, local_step}
use Rattle.pat_machine_spec.specs.Commits.{Shares}
use Rattle.pat_machine_threads.specs.declared.settling.Settled.{Settled}
use Rattle.pat_machine_threads.specs.Settling.{IsRunOnTop, settled_thread}

-- it is what local steps made of the top of the kept thread t
pub record IsSettled (p : Program) (c : Config) (t allowance : ℕ) (s : Settled) : Type 0 where
  pub kept : Thread
  pub there : thread_at c t ≡ Some kept
  pub run : IsRunOnTop p allowance kept s

-- the configuration after these
abbrev pub half_way : Config → (t : ℕ) → Thread → Settled → Config
half_way c t kept s = with_thread c t (settled_thread kept s)

-- the allowance less the k local steps: a shared step follows if anything is left of it, and else nothing
pub record Finishes (p : Program) (allowance limit : ℕ) (half : Config) (t k : ℕ) (a : Option Act) (d : Config) : Type 0 where
  pub shared : k < allowance → Shares p limit half t a d
  pub spent : k ≡ allowance → (a ≡ None) × (d ≡ half)

-- thread t is there, and has no local step
pub record StandsStill (p : Program) (c : Config) (t : ℕ) : Type 0 where
  pub kept : Thread
  pub there : thread_at c t ≡ Some kept
  pub still : local_step p kept ≡ None
