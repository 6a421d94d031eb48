-- Inputs whose history goes on from a checkpoint: the texts of a program, of a derivation, of a checkpoint, and of the history.
use Rattle.std.specs.Prelude.{◌⊎◌, ◌≤◌, ℕ, List, length}
use Rattle.pat_semantics_spec.specs.Programs.{Program}
use Rattle.pat_semantics_spec.specs.Configs.{Config}
use Rattle.pat_semantics_spec.specs.Runs.{Entry}
use Rattle.pat_derivation_spec.specs.Derivations.{Derivation}
use Rattle.pat_checkpoint_spec.specs.Checkpoints.{Checkpoint}
use Rattle.pat_history_spec.specs.HistoryText.{marker}
use Rattle.pat_input.specs.Inputs.{whole_limit}
use Rattle.pat_input_split.specs.Marked.{IsMarked}
use Rattle.pat_front.specs.declared.verdict.Verdict.{Verdict}
use Rattle.pat_checkpoint_input.specs.Parts.{HasMarks}
use Rattle.pat_checkpoint_input.specs.CheckedTexts.{HasCheckedParts, IsCheckpointRefusal}
use Rattle.pat_replay_input.specs.Histories.{HasReplay, Unreplayed}

-- the bytes are few enough; they are the head, and from the first line `%%history` on the history's text; and in the head are the marks of a
-- derivation and of a checkpoint behind it
pub record IsPiece (bytes head history : List ℕ) : Type 0 where
  pub small : length bytes ≤ whole_limit
  pub marked : IsMarked marker bytes head history
  pub marks : HasMarks head

abbrev pub IsNoPiece : List ℕ → Type 0
IsNoPiece bytes = (head history : List ℕ) → IsPiece bytes head history → ⊥

-- the head is the texts of the program, of a derivation of it, which is valid, and of a checkpoint that is checked by it; and the history leads
-- from there to the configuration
pub record ReplaysPiece (bytes : List ℕ) (p : Program) (d : Derivation) (x : Checkpoint) (es : List Entry) (c : Config) : Type 0 where
  pub head : List ℕ
  pub history : List ℕ
  pub piece : IsPiece bytes head history
  pub parts : HasCheckedParts head p d x
  pub leads : HasReplay p x.config history es c

-- so of some program, derivation, checkpoint and history, in which each entry can be taken
pub record HasPiece (bytes : List ℕ) : Type 0 where
  pub program : Program
  pub shown : Derivation
  pub from : Checkpoint
  pub entries : List Entry
  pub config : Config
  pub replays : ReplaysPiece bytes program shown from entries config

-- behind a checked checkpoint the history isn't replayed
pub record RefusesHistory (head history : List ℕ) (v : Verdict) : Type 0 where
  pub program : Program
  pub shown : Derivation
  pub from : Checkpoint
  pub parts : HasCheckedParts head program shown from
  pub unreplayed : Unreplayed program from.config (length head) history v

-- why a piece is refused: as its checkpoint is, or for its history
pub record RefusesPiece (bytes : List ℕ) (v : Verdict) : Type 0 where
  pub head : List ℕ
  pub history : List ℕ
  pub piece : IsPiece bytes head history
  pub why : IsCheckpointRefusal head v ⊎ RefusesHistory head history v
