-- What `replay` may answer.
use Rattle.std.specs.Prelude.{◌≡◌, ℕ, List}
use Rattle.pat_semantics_spec.specs.Programs.{Program}
use Rattle.pat_semantics_spec.specs.Configs.{Config}
use Rattle.pat_semantics_spec.specs.Runs.{Entry}
use Rattle.pat_replay_input.specs.RunText.{replay_text}
use Rattle.pat_front.specs.Lines.{line_of_verdict}
use Rattle.pat_front.specs.declared.exit_answers.status.Status.{Status}
use Rattle.pat_front.specs.declared.exit_answers.status.Status.TheVariants.{Ok, Refused}
use Rattle.pat_replay_input.specs.Histories.{standing}
use Rattle.pat_command_replay.specs.Pieces.{ReplaysInput, IsInputRefusal}

-- the bytes are the text of a program, and behind it that of a history that replays, from the program's start or from a checkpoint between
-- them; and this is its output, and how it stands
pub record IsReplayed (bytes out : List ℕ) : Type 0 where
  pub program : Program
  pub entries : List Entry
  pub config : Config
  pub replays : ReplaysInput bytes program entries config
  pub shown : out ≡ replay_text entries config (standing program config)

-- the text and the status of `replay` on these bytes
abbrev pub AllowedReplay : List ℕ → List ℕ → Status → Type 0
AllowedReplay bytes out Ok = IsReplayed bytes out
AllowedReplay bytes out (Refused v) = IsInputRefusal bytes v × (out ≡ line_of_verdict v)
AllowedReplay bytes out _ = ⊥
