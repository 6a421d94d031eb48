-- What is answered of an input.
use Rattle.std.specs.Prelude.{ℕ, List, map, Result}
use Rattle.std.specs.declared.result.Result.TheVariants.{Ok, Err}
use Rattle.pat_core.specs.Views.{program_view}
use Rattle.pat_reduce.specs.Views.{config_view, entry_view}
use Rattle.pat_front.specs.declared.front.FrontError.{FrontError}
use Rattle.pat_front.specs.declared.front.FrontError.TheVariants as error
use Rattle.pat_replay_input.specs.declared.histories.Replayed.{Replayed}
use Rattle.pat_command_replay.specs.Pieces.{ReplaysInput, IsInputRefusal}

-- the program, the history and the configuration of the bytes, or why they are refused; want of memory says nothing
abbrev pub InputGives : List ℕ → Result Replayed FrontError → Type 0
InputGives bytes (Ok r) = ReplaysInput bytes (program_view r.code.program) (map entry_view r.entries.items) (config_view r.config)
InputGives bytes (Err (error.Refused v)) = IsInputRefusal bytes v
InputGives bytes (Err error.NoMemory) = Unit {0}
