-- What `load` may answer.
use Rattle.std.specs.Prelude.{ℕ, List}
use Rattle.pat_load.specs.LoadText.{load_text}
use Rattle.pat_run.specs.declared.options.options.RunOptions.{RunOptions}
use Rattle.pat_front.specs.declared.exit_answers.status.Status.{Status}
use Rattle.pat_command_run.specs.declared.command.Detail.TheVariants.{Summary}
use Rattle.pat_command_run.specs.Allowed.{AllowedRun}

-- the text and the status of a run of the generated program of this size: what it printed, and how it ended; or, should that program
-- be refused, of its refusal
abbrev pub AllowedLoad : ℕ → RunOptions → List ℕ → Status → Type 0
AllowedLoad n options text status = AllowedRun Summary options (load_text n) text status
