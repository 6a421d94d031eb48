-- What `run` may answer, and whoever else runs a program.
use Rattle.std.specs.Prelude.{◌≡◌, ◌≤◌, ℕ, List, Some}
use Rattle.pat_semantics_spec.specs.Programs.{Program}
use Rattle.pat_semantics_spec.specs.Configs.{Config}
use Rattle.pat_semantics_spec.specs.Runs.{Entry, IsHistory, Outcome, EndDone, EndWaiting, EndFull, EndBudget, step_count, replay}
use Rattle.pat_machine_spec.specs.Machines.{StaysWithin}
use Rattle.pat_run.specs.declared.options.options.RunOptions.{RunOptions}
use Rattle.pat_run.specs.single.Runners.{IsRunWith}
use Rattle.pat_history.specs.run_reports.RunText.{run_text, replay_text}
use Rattle.pat_typecheck.specs.Inputs.{IsAcceptedText, IsCheckRefusal}
use Rattle.pat_front.specs.declared.exit_answers.status.Status.{Status}
use Rattle.pat_front.specs.declared.exit_answers.status.Status.TheVariants.{Ok, Refused, Usage, ReadFault, WriteFault, NoMemory, Budget, Waiting, Full}
use Rattle.pat_command_run.specs.declared.command.Detail.{Detail}
use Rattle.pat_command_run.specs.declared.command.Detail.TheVariants.{Whole, Summary}

-- the text that tells so much of a run: all of it, or what it printed and how it ended
abbrev pub told : Detail → List Entry → Config → Outcome → List ℕ
told Whole entries c o = run_text entries c o
told Summary entries c o = replay_text entries c (Some o)

-- the text tells of a history that replays, in which a local step is counted and never shown as the shared one, with at most so many
-- pending messages after each of its entries; it is a run by so many workers within so many steps, and this is how it ended
pub record RunsTo (p : Program) (d : Detail) (options : RunOptions) (o : Outcome) (text : List ℕ) : Type 0 where
  pub entries : List Entry
  pub config : Config
  pub replayed : replay p entries ≡ Some config
  pub history : IsHistory entries
  pub limited : StaysWithin p options.messages entries
  pub within : step_count entries ≤ options.steps
  pub run : IsRunWith p options entries config o
  pub shown : text ≡ told d entries config o

-- the status of a run that ended so
abbrev pub EndsWith : Outcome → Status → Type 0
EndsWith EndDone status = status ≡ Ok
EndsWith EndBudget status = status ≡ Budget
EndsWith EndWaiting status = status ≡ Waiting
EndsWith EndFull status = status ≡ Full

-- the text and the status of a run of the program
abbrev pub RunShows : Program → Detail → RunOptions → List ℕ → Status → Type 0
RunShows p d options text status = (o : Outcome) × EndsWith o status × RunsTo p d options o text

-- the bytes are the text of a program that is accepted, and these are the text and the status of a run of it
abbrev pub ShowsOne : Detail → RunOptions → List ℕ → List ℕ → Status → Type 0
ShowsOne d options bytes text status = (a : IsAcceptedText bytes) × RunShows a.program d options text status

-- the text and the status of a run with these options on these bytes, where so much of it is told
abbrev pub AllowedRun : Detail → RunOptions → List ℕ → List ℕ → Status → Type 0
AllowedRun d options bytes text Ok = ShowsOne d options bytes text Ok
AllowedRun d options bytes text Budget = ShowsOne d options bytes text Budget
AllowedRun d options bytes text Waiting = ShowsOne d options bytes text Waiting
AllowedRun d options bytes text Full = ShowsOne d options bytes text Full
AllowedRun d options bytes text (Refused v) = IsCheckRefusal bytes v text
AllowedRun d options bytes text Usage = ⊥
AllowedRun d options bytes text ReadFault = ⊥
AllowedRun d options bytes text WriteFault = ⊥
AllowedRun d options bytes text NoMemory = ⊥
