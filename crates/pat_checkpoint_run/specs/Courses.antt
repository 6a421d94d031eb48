-- Runs on their way.
use Rattle.std.specs.Prelude.{◌≡◌, ℕ, ◌+◌, ◌-◌, ◌≤◌, List, [], ◌∷◌, ◌++◌, length, map, Option, Some}
use Rattle.pat_semantics_spec.specs.Programs.{Program}
use Rattle.pat_semantics_spec.specs.Configs.{Thread, Config, thread_at, with_thread}
use Rattle.pat_semantics_spec.specs.Steps.{Act}
use Rattle.pat_semantics_spec.specs.Runs.{Entry, shared_step, entry_steps, replay_from}
use Rattle.pat_semantics_laws.specs.Laws.{history_steps}
use Rattle.pat_machine_spec.specs.Commits.{IsLocalRun}
use Rattle.pat_reduce.specs.declared.config.Config.{Config as CodeConfig}
use Rattle.pat_reduce.specs.Places.{IsPlace}
use Rattle.pat_reduce.specs.Views.{config_view, entry_view}
use Rattle.pat_checkpoint_spec.specs.Resumed.{made_along}
use Rattle.pat_checkpoint_spec.specs.Turns.{first_act, after_act, turn_at, turns}
use Rattle.pat_checkpoint_run.specs.declared.course.Course.{Course}
use Rattle.pat_checkpoint_run.specs.declared.next.Turn.{Turn}
use Rattle.pat_limits.specs.Limits.{most_number}

-- so many further numbers of each kind are there
pub record HasRoom (c : Config) (n : ℕ) : Type 0 where
  pub threads : c.next_thread + n ≤ most_number
  pub mailboxes : c.next_mailbox + n ≤ most_number
  pub messages : c.next_message + n ≤ most_number

-- n local steps of the thread lead from the one configuration to the other: all that the allowance allows, or as many as there are
pub record TakesLocals (p : Program) (allowance : ℕ) (turn : Turn) (n : ℕ) (old new : CodeConfig) : Type 0 where
  pub kept : Thread
  pub middle : Thread
  pub there : thread_at (config_view old) turn.thread ≡ Some kept
  pub local : IsLocalRun p allowance kept n middle
  pub config : config_view new ≡ with_thread (config_view old) turn.thread middle
  pub place : IsPlace new.threads turn.thread turn.place

-- the first enabled act of the thread, if there is one, leads from the one configuration to the other, and the interfaces of the mailboxes that
-- were made go on by what it makes
pub record Shares (p : Program) (t : ℕ) (c : Config) (before : List ℕ) (a : Option Act) (d : Config) (made : List ℕ) : Type 0 where
  pub act : a ≡ first_act p c t
  pub config : d ≡ after_act p c t a
  pub made_is : made ≡ before ++ made_along p c (shared_step t a)

-- the entry of a turn
abbrev pub turn_entry : ℕ → ℕ → Option Act → Entry
turn_entry t n a = record { worker = 0; thread = t; local_steps = n; shared = a }

-- a turn of the thread is noted, of so many local steps and this shared act, if there is one
pub record Notes (t n : ℕ) (a : Option Act) (old new : Course) : Type 0 where
  pub entries : map entry_view new.entries ≡ map entry_view old.entries ++ turn_entry t n a ∷ []
  pub config : new.config ≡ old.config
  pub made : new.made ≡ old.made
  pub left : new.left ≡ old.left - (n + length (shared_step t a))
  pub last : new.last ≡ Some t

-- the turn of the thread is taken
pub record TakesTurn (p : Program) (t : ℕ) (old new : Course) : Type 0 where
  pub entries : map entry_view new.entries ≡ map entry_view old.entries ++ (turn_at p old.left (config_view old.config) t).entry ∷ []
  pub config : config_view new.config ≡ (turn_at p old.left (config_view old.config) t).after
  pub made : new.made ≡ old.made ++ made_along p (config_view old.config) (entry_steps (turn_at p old.left (config_view old.config) t).entry)
  pub left : new.left ≡ old.left - length (entry_steps (turn_at p old.left (config_view old.config) t).entry)
  pub last : new.last ≡ Some t

-- the turns from the configuration, where they lead, and the interfaces of the mailboxes that they make
pub record HasRun (p : Program) (c : Config) (steps : ℕ) (r : Course) : Type 0 where
  pub entries : map entry_view r.entries ≡ turns p c steps
  pub reached : replay_from p c (turns p c steps) ≡ Some (config_view r.config)
  pub made : r.made ≡ made_along p c (history_steps (turns p c steps))
