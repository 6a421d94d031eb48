-- Which inputs a command answers by a status of its own.
use Rattle.std.specs.Prelude.{◌≡◌, ◌⊎◌, ℕ, List, Some}
use Rattle.pat_semantics_spec.specs.Programs.{Program}
use Rattle.pat_semantics_spec.specs.Configs.{Config}
use Rattle.pat_semantics_spec.specs.Runs.{Entry}
use Rattle.pat_parser_spec.specs.Trees.{Tree}
use Rattle.pat_load.specs.LoadText.{load_text}
use Rattle.pat_ports.specs.Causes.{Raised}
use Rattle.pat_front.specs.Texts.{IsProgramText}
use Rattle.pat_front.specs.declared.exit_answers.status.Status.{Status}
use Rattle.pat_front.specs.declared.exit_answers.status.Status.TheVariants.{Ok, NoMemory}
use Rattle.pat_command_replay.specs.Histories.{Replays}
use Rattle.pat_command_checkpoint.specs.Pieces.{HasPiece}
use Rattle.pat_command_check.specs.Typable.{HasTypable}
use Rattle.pat_command_order.specs.Answers.{AreFew}
use Rattle.pat_command_verify.specs.Answers.{HasValidDerivation}
use Rattle.pat_command_checkpoint.specs.Allowed.{IsUnshown}
use Rattle.pat_command_resume.specs.CheckedTexts.{IsCheckedInput}
use Rattle.pat_session.specs.declared.words.Command.{Command}
use Rattle.pat_session.specs.declared.words.Command.TheVariants.{Check, Derive, Print, Run, Replay, Order, Verify, Checkpoint, Resume, Load, Help}
use Rattle.pat_session.specs.Ports.{SourceState, SinkState}
use Rattle.pat_session.specs.Allowed.{IsCommand, HasInput}
use Rattle.pat_session.specs.Answers.{IsAccepted, WentOn}
use Rattle.pat_session.specs.Calls.{Call}

-- the bytes are the text of a program
pub record HasText (bytes : List ℕ) : Type 0 where
  pub tree : Tree
  pub program : Program
  pub spelled : IsProgramText bytes tree program

-- the bytes are the text of a program, and behind it that of a history of it in which each entry can be taken
pub record HasHistory (bytes : List ℕ) : Type 0 where
  pub program : Program
  pub entries : List Entry
  pub config : Config
  pub replays : Replays bytes program entries config

-- what the input has, so that the command doesn't refuse it
abbrev pub Suits : Command → List ℕ → Type 0
Suits Check bytes = HasTypable bytes
Suits Derive bytes = HasTypable bytes
Suits Print bytes = HasText bytes
Suits (Run o) bytes = HasTypable bytes
Suits Replay bytes = HasHistory bytes ⊎ HasPiece bytes
Suits Order bytes = (h : HasHistory bytes) × AreFew h.entries
Suits Verify bytes = HasValidDerivation bytes
-- no line of its checkpoint needs an inclusion that can't be shown
Suits (Checkpoint steps) bytes = (HasTypable bytes ⊎ HasPiece bytes) × ((line : ℕ) → IsUnshown steps bytes line → ⊥)
Suits (Resume steps) bytes = IsCheckedInput bytes
-- it has no input, and its program is generated
Suits (Load n o) bytes = HasTypable (load_text n)
Suits Help bytes = Unit {0}

-- the status is the command's own: it did what it was asked
abbrev pub IsOwn : Command → Status → Type 0
IsOwn (Run o) status = IsAccepted status
IsOwn (Resume steps) status = WentOn status
IsOwn (Load n o) status = IsAccepted status
IsOwn c status = status ≡ Ok

-- the source told the bytes of the command's input, they suit it, and no port counted one fault more: so the status is the command's own,
-- or memory was wanting
abbrev pub AnswersSuited : (words : List (List ℕ)) → (had left : SourceState) → (old new : SinkState) → Status → Type 0
AnswersSuited words had left old new status =
    (command : Command) (bytes : List ℕ)
    → IsCommand command words
    → (HasInput command → had.rest ≡ Some bytes)
    → Suits command bytes
    → (Raised had.faults left.faults → ⊥)
    → (Raised old.faults new.faults → ⊥)
    → IsOwn command status ⊎ (status ≡ NoMemory)

-- so of every call
abbrev pub IsComplete : Type 0
IsComplete =
    (words : List (List ℕ)) (had left : SourceState) (old new : SinkState) (status : Status)
    → Call words had left old new status
    → AnswersSuited words had left old new status
