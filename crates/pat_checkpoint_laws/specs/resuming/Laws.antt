-- Turns of one worker from a configuration.
use Rattle.std.specs.Prelude.{◌≡◌, ℕ, ◌+◌, ◌++◌, ◌<◌, ◌≤◌, nat_lt, min, IsTrue, IsFalse, if◌then◌else◌, List, [], length, Option, Some, None, option_map, find, is_some}
use Rattle.std.specs.List.{AllByRecursion}
use Rattle.pat_semantics_spec.specs.Programs.{Program}
use Rattle.pat_semantics_spec.specs.WellFormed.{WellFormed}
use Rattle.pat_semantics_spec.specs.Configs.{Thread, Config, thread_at}
use Rattle.pat_semantics_spec.specs.Steps.{Act, ActReceive, Step, step}
use Rattle.pat_semantics_laws.specs.Laws.{IsEnabled}
use Rattle.pat_semantics_spec.specs.Orders.{IsOrdered}
use Rattle.pat_semantics_spec.specs.Runs.{run_from, Entry, IsHistory, entry_steps, entry_from, replay_from, step_count, can_step, can_step_thread, Outcome, outcome}
use Rattle.pat_machine_spec.specs.Commits.{IsLocalRun, IsCommit}
use Rattle.pat_machine_spec.specs.Turns.{turn}
use Rattle.pat_type_system_spec.specs.Interfaces.{interfaces_along}
use Rattle.pat_type_system_spec.specs.Typed.{IsTyped}
use Rattle.pat_inclusion_spec.specs.Certificates.{Cert}
use Rattle.pat_derivation_spec.specs.Derivations.{Derivation, typing_of}
use Rattle.pat_derivation_spec.specs.Validity.{IsValid}
use Rattle.pat_checkpoint_spec.specs.Checkpoints.{PartCerts, Checkpoint, interface_at}
use Rattle.pat_checkpoint_spec.specs.Checked.{IsChecked, stands_typed}
use Rattle.pat_checkpoint_spec.specs.Resumed.{made_along, interface_made, interfaces_after_history, IsResumed, start_checkpoint, silent_checkpoint}
use Rattle.pat_checkpoint_spec.specs.Turns.{take_locals, first_act, turn_at, next_thread, turns_by, turns_from, turns}

-- the history leads to a configuration, with at most so many steps, all of worker 0, and there the run ends
pub record TurnsReach (p : Program) (c : Config) (steps : ℕ) (es : List Entry) : Type 0 where
  pub config : Config
  pub reached : replay_from p c es ≡ Some config
  pub within : step_count es ≤ steps
  pub workers : AllByRecursion (λ e. e.worker ≡ 0) es
  pub history : IsHistory es
  pub ends : (o : Outcome) × (outcome p config (step_count es) steps None ≡ Some o)

-- the turns from any configuration in order are such a history
abbrev pub TurnsEnd : Type 0
TurnsEnd = (p : Program) (c : Config) (steps : ℕ) → IsOrdered c → TurnsReach p c steps (turns p c steps)

-- a turn of a thread that is there commits a job, whatever limit has room for a message more
abbrev pub TurnCommits : Type 0
TurnCommits =
    (p : Program) (c : Config) (t left limit : ℕ) (s : Thread)
    → IsOrdered c
    → thread_at c t ≡ Some s
    → length c.messages < limit
    → IsCommit p (min 256 left) limit c (turn_at p left c t).entry (turn_at p left c t).after

-- a turn of a thread that can take a step takes one at least and no more than are left, and leads where its steps lead
pub record TurnTakes (p : Program) (left : ℕ) (c : Config) (t : ℕ) : Type 0 where
  pub some : 1 ≤ length (entry_steps (turn_at p left c t).entry)
  pub within : length (entry_steps (turn_at p left c t).entry) ≤ left
  pub leads : entry_from p c (entry_steps (turn_at p left c t).entry) ≡ Some (turn_at p left c t).after
  pub ordered : IsOrdered (turn_at p left c t).after

abbrev pub TurnsTake : Type 0
TurnsTake =
    (p : Program) (c : Config) (left t : ℕ) → IsOrdered c → 0 < left → IsTrue (can_step_thread p c t) → TurnTakes p left c t

-- no turn is left where no step is; else the turn of the next thread comes first, if there is one, and then those after it
abbrev pub TurnsUnfold : Type 0
TurnsUnfold =
    (p : Program) (c : Config) (left : ℕ) (last : Option ℕ)
    → IsOrdered c
    → turns_from p c left last
    ≡ (if nat_lt 0 left then turns_by (λ d rest t. turns_from p d rest (Some t)) (turn_at p left c) left (next_thread p c last) else [])

-- the next thread can take a step, and where there is none no step is enabled
abbrev pub NextIsAble : Type 0
NextIsAble =
    (p : Program) (c : Config) (last : Option ℕ)
    → ((t : ℕ) → next_thread p c last ≡ Some t → IsTrue (can_step_thread p c t)) × (next_thread p c last ≡ None → IsFalse (can_step p c))

-- an enabled act of a thread is its first one, where a receive is that of the first message; and there is none where no step is enabled
abbrev pub ActIsFirst : Type 0
ActIsFirst =
    (p : Program) (c : Config) (t : ℕ)
    → ((a : Act)
    → IsEnabled p c (record { thread = t; act = a })
    → ((k : ℕ) → a ≡ ActReceive k → option_map (λ m. m.number) (find (λ m. is_some (step p c (record { thread = t; act = ActReceive m.number }))) c.messages) ≡ Some k)
    → first_act p c t ≡ Some a)
    × (IsFalse (can_step_thread p c t) → first_act p c t ≡ None)

-- local steps until none follows, or so many are taken, are those of the turn
abbrev pub LocalsAre : Type 0
LocalsAre =
    (p : Program) (n k : ℕ) (s r : Thread) → IsLocalRun p n s k r → take_locals p n s ≡ record { count = k; thread = r }

-- where a limit leaves room for a message more, the next thread is the one whose turn it is at a machine where nobody is out
abbrev pub TurnIsNext : Type 0
TurnIsNext =
    (p : Program) (c : Config) (limit : ℕ) (last : Option ℕ) → length c.messages < limit → turn p c limit [] last ≡ next_thread p c last

-- ---- the mailboxes that are made

-- the interfaces along steps are those before them, and then those of the mailboxes that were made, by number
abbrev pub InterfacesMade : Type 0
InterfacesMade =
    (p : Program) (ks : List Step) (interfaces : ℕ → ℕ) (c d : Config) (a : ℕ)
    → run_from p c ks ≡ Some d
    → interfaces_along p c ks interfaces a ≡ interface_made interfaces c.next_mailbox (made_along p c ks) a

-- joined steps make what the one and then what the other make
abbrev pub MadeJoins : Type 0
MadeJoins =
    (p : Program) (ks ls : List Step) (c d : Config)
    → run_from p c ks ≡ Some d
    → made_along p c (ks ++ ls) ≡ made_along p c ks ++ made_along p d ls

-- as many are made as the next number rises
abbrev pub MadeCounts : Type 0
MadeCounts =
    (p : Program) (ks : List Step) (c d : Config) → run_from p c ks ≡ Some d → d.next_mailbox ≡ c.next_mailbox + length (made_along p c ks)

-- ---- from a checked checkpoint

-- what a history leads to from a checked checkpoint is typed, with the interfaces of the checkpoint and those of the mailboxes that were made
abbrev pub ResumedIsTyped : Type 0
ResumedIsTyped =
    (p : Program) (d : Derivation) (x : Checkpoint) (es : List Entry) (c : Config)
    → WellFormed p
    → IsChecked p d x
    → replay_from p x.config es ≡ Some c
    → IsTyped p (typing_of p d) (interface_at c.live (interfaces_after_history p x es c)) c

-- the turns from a checked checkpoint are a run that goes on from it, and end so
abbrev pub TurnsResume : Type 0
TurnsResume =
    (p : Program) (d : Derivation) (x : Checkpoint) (steps : ℕ)
    → WellFormed p
    → IsChecked p d x
    → (c : Config)
    × (o : Outcome)
    × IsResumed p d x steps (turns p x.config steps) c (interfaces_after_history p x (turns p x.config steps) c) o

-- the start of a program is a checked checkpoint, by each valid derivation
abbrev pub StartIsChecked : Type 0
StartIsChecked = (p : Program) (d : Derivation) → WellFormed p → IsValid p d → IsChecked p d (start_checkpoint p)

-- a typed configuration, but for its printed lines, stands typed as a checkpoint, whatever certificates are added
abbrev pub TypedCanBeWritten : Type 0
TypedCanBeWritten =
    (p : Program) (d : Derivation) (c : Config) (interfaces : List ℕ) (mailboxes : List (Option Cert)) (parts : List PartCerts)
    → WellFormed p
    → IsTyped p (typing_of p d) (interface_at c.live interfaces) c
    → IsTrue (stands_typed p d (silent_checkpoint c interfaces mailboxes parts))
