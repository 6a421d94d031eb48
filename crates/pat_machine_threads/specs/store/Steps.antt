-- A step of a thread by itself.
use Rattle.std.specs.Prelude.{◌≡◌, Some, None, Result}
use Rattle.std.specs.declared.result.Result.TheVariants.{Ok, Err}
use Rattle.pat_semantics_spec.specs.Programs.{Program}
use Rattle.pat_semantics_spec.specs.Configs.{Thread, Config, thread_at}
use Rattle.pat_semantics_spec.specs.Steps.{Step, step}
use Rattle.pat_reduce_values.specs.declared.error.StepError.{StepError}
use Rattle.pat_reduce_values.specs.declared.error.StepError.TheVariants.{Disabled, NoMemory}
use Rattle.pat_machine_laws.specs.thread_frames.Alone.{alone, put_back}

-- the step is one of the thread alone, and what is left of that stands in its place
pub record IsTaken (p : Program) (c : Config) (k : Step) (d : Config) : Type 0 where
  pub thread : Thread
  pub left : Config
  pub there : thread_at c k.thread ≡ Some thread
  pub gives : step p (alone c k.thread thread c.live) k ≡ Some left
  pub after : d ≡ record left { threads = put_back k.thread c.threads left.threads }

-- it was taken, or it isn't enabled for the thread alone, or memory ran out; an `Err` changes nothing
abbrev pub StepsApart : Program → (old : Config) → Step → (new : Config) → Result (Unit {0}) StepError → Type 0
StepsApart p c k d (Ok u) = IsTaken p c k d
StepsApart p c k d (Err Disabled) = ((s : Thread) → thread_at c k.thread ≡ Some s → step p (alone c k.thread s c.live) k ≡ None) × (d ≡ c)
StepsApart p c k d (Err NoMemory) = d ≡ c
