-- What `load` answers is a command's.
use Rattle.std.proofs.Common.{ℕ, List}
use Rattle.pat_load.specs.LoadText.{load_text}
use Rattle.pat_front.specs.exit_answers.Answers.{IsCommandStatus}
use Rattle.pat_front.specs.declared.exit_answers.status.Status.{Status}
use Rattle.pat_run.specs.declared.options.options.RunOptions.{RunOptions}
use Rattle.pat_command_run.specs.declared.command.Detail.TheVariants.{Summary}
pub use Rattle.pat_command_run.proofs.Statuses.{run_status}
use Rattle.pat_command_run.specs.load.Allowed.{AllowedLoad}

pub load_status : (n : ℕ) (options : RunOptions) (text : List ℕ) (s : Status) → AllowedLoad n options text s → IsCommandStatus (load_text n) s
load_status n options text s a = run_status Summary options (load_text n) text s a
