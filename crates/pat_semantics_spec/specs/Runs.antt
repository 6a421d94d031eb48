-- Runs, histories, and how a run ends.
use Rattle.std.specs.Prelude.{ℕ, ◌+◌, Bool, true, false, not, ◌&&◌, nat_eq, List, [], ◌∷◌, ◌++◌, length, replicate, Option, Some, None, option_and_then, is_some, map, filter, if◌then◌else◌}
use Rattle.std.specs.List.{list_any, AllByRecursion}
use Rattle.pat_semantics_spec.specs.Programs.{Program}
use Rattle.pat_semantics_spec.specs.Configs.{Thread, Config, start}
use Rattle.pat_semantics_spec.specs.Steps.{Act, ActLocal, ActNew, ActSend, ActSpawn, ActPrint, ActEnd, ActFree, ActReceive, Step, step}

-- the configuration after steps, one after another, or nothing where one isn't enabled
abbrev pub run_from : Program → Config → List Step → Option Config
run_from p c [] = Some c
run_from p c (k ∷ ks) = option_and_then (λ d. run_from p d ks) (step p c k)

-- the configuration after steps from the program's start
abbrev pub run : Program → List Step → Option Config
run p ks = run_from p (start p) ks

-- an entry of a history: a worker, a thread, its count of local steps, and its shared act, if there is one
pub record Entry : Type 0 where
  pub worker : ℕ
  pub thread : ℕ
  pub local_steps : ℕ
  pub shared : Option Act

-- the act is a shared one, which is any but a local step
abbrev pub IsShared : Act → Type 0
IsShared ActLocal = ⊥
IsShared _ = Unit {0}

-- the act, if there is one, is a shared one
abbrev pub IsSharedOrNone : Option Act → Type 0
IsSharedOrNone None = Unit {0}
IsSharedOrNone (Some a) = IsShared a

-- a history that a text may show: a local step is counted in its entry, and is never the entry's shared act
abbrev pub IsHistory : List Entry → Type 0
IsHistory es = AllByRecursion (λ e. IsSharedOrNone e.shared) es

-- the shared step of an entry, if it has one
abbrev pub shared_step : ℕ → Option Act → List Step
shared_step t None = []
shared_step t (Some a) = record { thread = t; act = a } ∷ []

-- the steps of an entry: the local ones, and then the shared one
abbrev pub entry_steps : Entry → List Step
entry_steps e = replicate e.local_steps (record { thread = e.thread; act = ActLocal }) ++ shared_step e.thread e.shared

-- the configuration after an entry, or nothing where it has no step
abbrev pub entry_from : Program → Config → List Step → Option Config
entry_from p c [] = None
entry_from p c (k ∷ ks) = run_from p c (k ∷ ks)

-- the configuration after a history, from any configuration
abbrev pub replay_from : Program → Config → List Entry → Option Config
replay_from p c [] = Some c
replay_from p c (e ∷ es) = option_and_then (λ d. replay_from p d es) (entry_from p c (entry_steps e))

-- the configuration after a history, from the program's start
abbrev pub replay : Program → List Entry → Option Config
replay p es = replay_from p (start p) es

-- the number of steps of a history
abbrev pub step_count : List Entry → ℕ
step_count [] = 0
step_count (e ∷ es) = length (entry_steps e) + step_count es

-- the acts that can be enabled
abbrev pub acts : Config → List Act
acts c = ActLocal ∷ ActNew ∷ ActSend ∷ ActSpawn ∷ ActPrint ∷ ActEnd ∷ ActFree ∷ map (λ m. ActReceive m.number) c.messages

-- whether one of these acts of the thread is enabled
abbrev pub can_take : Program → Config → ℕ → List Act → Bool
can_take p c t candidates = list_any (λ a. is_some (step p c (record { thread = t; act = a }))) candidates

-- whether a step of the thread is enabled
abbrev pub can_step_thread : Program → Config → ℕ → Bool
can_step_thread p c t = can_take p c t (acts c)

-- whether a step is enabled
abbrev pub can_step : Program → Config → Bool
can_step p c = list_any (λ e. can_step_thread p c e.0) c.threads

-- whether the act is a send
abbrev pub is_send : Act → Bool
is_send ActSend = true
is_send _ = false

-- whether a step that is no send is enabled
abbrev pub can_step_without_sending : Program → Config → Bool
can_step_without_sending p c = list_any (λ e. can_take p c e.0 (filter (λ a. not (is_send a)) (acts c))) c.threads

-- how a run ends
pub data Outcome : Type 0 where
  EndDone : Outcome
  EndWaiting : Outcome
  EndFull : Outcome
  EndBudget : Outcome

-- whether a thread is left
abbrev pub has_threads : List (ℕ × Thread) → Bool
has_threads [] = false
has_threads _ = true

-- whether just as many messages are pending as a limit allows, if there is one
abbrev pub is_at_limit : Option ℕ → ℕ → Bool
is_at_limit None n = false
is_at_limit (Some m) n = nat_eq m n

-- the outcome of a configuration after `steps` steps, with a budget of steps and, if there is one, a limit on pending messages:
-- done where every thread ended, waiting where no step is enabled, full where the limit is met and only sends are enabled,
-- budget where the steps are spent; there is none where the run goes on
abbrev pub outcome : Program → Config → (steps budget : ℕ) → (limit : Option ℕ) → Option Outcome
outcome p c steps budget limit =
    if not (has_threads c.threads) then Some EndDone
    else if not (can_step p c) then Some EndWaiting
    else if is_at_limit limit (length c.messages) && not (can_step_without_sending p c) then Some EndFull
    else if nat_eq steps budget then Some EndBudget
    else None
