-- What a run with options comes to, whoever runs it.
use Rattle.std.specs.Prelude.{◌≡◌, ◌<◌, List, Some, Result, IfOk}
use Rattle.std.specs.List.{All}
use Rattle.pat_semantics_spec.specs.Programs.{Program}
use Rattle.pat_semantics_spec.specs.Configs.{Config}
use Rattle.pat_semantics_spec.specs.WellFormed.{WellFormed}
use Rattle.pat_semantics_spec.specs.Runs.{Entry, Outcome, step_count, outcome}
use Rattle.pat_type_system_spec.specs.Typings.{IsTypable}
use Rattle.pat_core.specs.declared.program.Program.{Program as CodeProgram}
use Rattle.pat_core.specs.Views.{program_view}
use Rattle.pat_machine.specs.Shown.{entries_of}
use Rattle.pat_machine.specs.Gives.{IsOver, outcome_view}
use Rattle.pat_run.specs.options.Options.{IsWithin}
use Rattle.pat_run.specs.declared.options.options.RunOptions.{RunOptions}
use Rattle.pat_run.specs.declared.single.running.Finished.{Finished}
use Rattle.pat_run.specs.single.Runs.{IsRun}

-- each entry of the history names one of the workers, and the configuration ends the run so, which is where nothing can be taken any
-- more; the history of one worker is that of its jobs, one after another, each of the thread whose turn it is
pub record IsRunWith (p : Program) (options : RunOptions) (es : List Entry) (c : Config) (o : Outcome) : Type 0 where
  pub workers : All (λ (e : Entry). e.worker < options.workers) es
  pub ends : outcome p c (step_count es) options.steps (Some options.messages) ≡ Some o
  pub alone : options.workers ≡ 1 → IsRun p options.steps options.messages es c o

-- the machine is one of the program with these steps and this limit; nobody is out and nothing is left to do; and its history is a run
pub record RunGives (program : CodeProgram) (options : RunOptions) (f : Finished) : Type 0 where
  pub named : f.machine.named ≡ record { program = program; budget = options.steps; limit = options.messages }
  pub over : IsOver f.machine
  pub run : IsRunWith (program_view program) options (entries_of f.machine) f.machine.config (outcome_view f.outcome)

-- what may be called with each accepted program and options in their bounds, and gives a run of it, is a runner
pub record IsRunner {E : Type 0} (pre : CodeProgram → RunOptions → Type 0) (post : CodeProgram → RunOptions → Result Finished E → Type 0) : Type 0 where
  pub may : (p : CodeProgram) (o : RunOptions) → WellFormed (program_view p) → IsTypable (program_view p) → IsWithin o → pre p o
  pub gives : (p : CodeProgram) (o : RunOptions) (r : Result Finished E) → post p o r → IfOk r (RunGives p o)
