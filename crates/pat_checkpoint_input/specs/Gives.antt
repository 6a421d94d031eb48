-- What is answered of bytes, and of parts of them.
use Rattle.std.specs.Prelude.{◌≡◌, ◌+◌, ℕ, IsTrue, List, map, Some, Result}
use Rattle.std.specs.declared.result.Result.TheVariants.{Ok, Err}
use Rattle.pat_semantics_spec.specs.Programs.{Program}
use Rattle.pat_core.specs.Views.{program_view}
use Rattle.pat_derivation_spec.specs.Derivations.{Derivation}
use Rattle.pat_derivations.specs.declared.data.Derivation.{Derivation as CodeDerivation}
use Rattle.pat_derivations.specs.Views.{derivation_view}
use Rattle.pat_derivation_spec.specs.Validity.{first_bad, IsValid}
use Rattle.pat_judge.specs.Views.{rule_view}
use Rattle.pat_checkpoint_spec.specs.Checkpoints.{Checkpoint}
use Rattle.pat_checkpoint_spec.specs.Checked.{IsChecked}
use Rattle.pat_checkpoint_spec.specs.Resumed.{interfaces_after_history}
use Rattle.pat_reduce.specs.Views.{config_view, entry_view}
use Rattle.pat_checkpoint_spec.specs.text.Reading as checkpoint_text
use Rattle.pat_checkpoint_spec.specs.text.CheckpointText.{marker}
use Rattle.pat_checkpoint_data.specs.declared.data.Checkpoint.{Checkpoint as CodeCheckpoint}
use Rattle.pat_checkpoint_data.specs.Views.{checkpoint_view}
use Rattle.pat_checkpoint_checks.specs.Answers.{check_rule_view}
use Rattle.pat_input_split.specs.Marked.{IsMarked}
use Rattle.pat_front.specs.declared.front.FrontError.{FrontError}
use Rattle.pat_front.specs.declared.front.FrontError.TheVariants as error
use Rattle.pat_front.specs.declared.verdict.Verdict.{Verdict}
use Rattle.pat_front.specs.declared.verdict.Verdict.TheVariants as verdict
use Rattle.pat_checkpoint_input.specs.declared.inputs.CheckedInput.{CheckedInput}
use Rattle.pat_replay_input.specs.Histories.{HasReplay, Unreplayed}
use Rattle.pat_checkpoint_input.specs.declared.pieces.Piece.{Piece}
use Rattle.pat_checkpoint_input.specs.declared.pieces.Led.{Led}
use Rattle.pat_checkpoint_input.specs.Pieces.{ReplaysPiece, RefusesPiece}
use Rattle.pat_checkpoint_input.specs.CheckedTexts.{has_room, first_broken, HasChecked, Unchecked, HasCheckedParts, IsCheckpointRefusal}

-- the checkpoint is checked and has room, or the first rule that it breaks; want of memory says nothing
abbrev pub Examines : Program → Derivation → Checkpoint → Result (Unit {0}) FrontError → Type 0
Examines p d x (Ok done) = IsChecked p d x × IsTrue (has_room x.config)
Examines p d x (Err (error.Refused (verdict.BadCheckpoint r))) = first_broken p d x ≡ Some (check_rule_view r)
Examines p d x (Err (error.Refused v)) = ⊥
Examines p d x (Err error.NoMemory) = Unit {0}

-- why a derivation and a checkpoint are refused
abbrev pub JudgedBad : Program → Derivation → Checkpoint → Verdict → Type 0
JudgedBad p d x (verdict.Rejected n r) = first_bad p d ≡ Some (n, rule_view r)
JudgedBad p d x (verdict.BadCheckpoint r) = IsValid p d × (first_broken p d x ≡ Some (check_rule_view r))
JudgedBad p d x _ = ⊥

-- so of a derivation that may not be valid
abbrev pub Judges : Program → Derivation → Checkpoint → Result (Unit {0}) FrontError → Type 0
Judges p d x (Ok done) = IsChecked p d x × IsTrue (has_room x.config)
Judges p d x (Err (error.Refused v)) = JudgedBad p d x v
Judges p d x (Err error.NoMemory) = Unit {0}

-- why a text isn't that of a checkpoint which is checked
abbrev pub RefusesCheckpoint : Program → Derivation → (at : ℕ) → (text : List ℕ) → Verdict → Type 0
RefusesCheckpoint p d at text (verdict.BadText o) = (offset : ℕ) × (o ≡ at + offset) × checkpoint_text.Unread p text offset
RefusesCheckpoint p d at text v = (x : Checkpoint) × checkpoint_text.ReadsAs p text x × JudgedBad p d x v

abbrev pub CheckpointGives : Program → Derivation → (at : ℕ) → (text : List ℕ) → Result CodeCheckpoint FrontError → Type 0
CheckpointGives p d at text (Ok x) =
    checkpoint_text.ReadsAs p text (checkpoint_view x) × IsChecked p d (checkpoint_view x) × IsTrue (has_room (checkpoint_view x).config)
CheckpointGives p d at text (Err (error.Refused v)) = RefusesCheckpoint p d at text v
CheckpointGives p d at text (Err error.NoMemory) = Unit {0}

-- so of both texts
abbrev pub TextsGive : Program → (from : ℕ) → (derivation checkpoint : List ℕ) → Result (CodeDerivation × CodeCheckpoint) FrontError → Type 0
TextsGive p from derivation checkpoint (Ok r) = HasChecked p derivation checkpoint (derivation_view r.0) (checkpoint_view r.1)
TextsGive p from derivation checkpoint (Err (error.Refused v)) = Unchecked p from derivation checkpoint v
TextsGive p from derivation checkpoint (Err error.NoMemory) = Unit {0}

-- so of the program with them
abbrev pub PartsGive : Program → (from : ℕ) → (derivation checkpoint : List ℕ) → Result CheckedInput FrontError → Type 0
PartsGive p from derivation checkpoint (Ok r) =
    (program_view r.program ≡ p) × HasChecked p derivation checkpoint (derivation_view r.derivation) (checkpoint_view r.checkpoint)
PartsGive p from derivation checkpoint (Err (error.Refused v)) = Unchecked p from derivation checkpoint v
PartsGive p from derivation checkpoint (Err error.NoMemory) = Unit {0}

-- so of a text behind the program, which is that of a derivation and of a checkpoint
abbrev pub BehindGives : Program → (from : ℕ) → (text : List ℕ) → Result CheckedInput FrontError → Type 0
BehindGives p from text r =
    (derivation : List ℕ) × (checkpoint : List ℕ) × IsMarked marker text derivation checkpoint × PartsGive p from derivation checkpoint r

-- the program, the derivation and the checkpoint of the bytes, or why they are refused
abbrev pub BytesGive : List ℕ → Result CheckedInput FrontError → Type 0
BytesGive bytes (Ok r) = HasCheckedParts bytes (program_view r.program) (derivation_view r.derivation) (checkpoint_view r.checkpoint)
BytesGive bytes (Err (error.Refused v)) = IsCheckpointRefusal bytes v
BytesGive bytes (Err error.NoMemory) = Unit {0}

-- ---- pieces

-- the piece is the history of the bytes, with the derivation, where it leads, and the interfaces of the mailboxes that live there
pub record HasLed (bytes : List ℕ) (r : Piece) : Type 0 where
  pub from : Checkpoint
  pub replays : ReplaysPiece bytes (program_view r.replayed.code.program) (derivation_view r.derivation) from (map entry_view r.replayed.entries.items) (config_view r.replayed.config)
  pub interfaces : r.interfaces ≡ interfaces_after_history (program_view r.replayed.code.program) from (map entry_view r.replayed.entries.items) (config_view r.replayed.config)

-- so of the bytes, or why they are refused
abbrev pub PieceGives : List ℕ → Result Piece FrontError → Type 0
PieceGives bytes (Ok r) = HasLed bytes r
PieceGives bytes (Err (error.Refused v)) = RefusesPiece bytes v
PieceGives bytes (Err error.NoMemory) = Unit {0}

-- so of a text behind a program, a derivation and a checkpoint
abbrev pub ProgramGives : Program → Derivation → Checkpoint → (from : ℕ) → (text : List ℕ) → Result Piece FrontError → Type 0
ProgramGives p d x from text (Ok r) =
    (program_view r.replayed.code.program ≡ p)
    × (derivation_view r.derivation ≡ d)
    × HasReplay p x.config text (map entry_view r.replayed.entries.items) (config_view r.replayed.config)
    × (r.interfaces ≡ interfaces_after_history p x (map entry_view r.replayed.entries.items) (config_view r.replayed.config))
ProgramGives p d x from text (Err (error.Refused v)) = Unreplayed p x.config from text v
ProgramGives p d x from text (Err error.NoMemory) = Unit {0}

-- the same of a text behind a program, from a checkpoint on
abbrev pub LedGives : Program → Checkpoint → (from : ℕ) → (text : List ℕ) → Result Led FrontError → Type 0
LedGives p x from text (Ok r) =
    (program_view r.replayed.code.program ≡ p)
    × HasReplay p x.config text (map entry_view r.replayed.entries.items) (config_view r.replayed.config)
    × (r.interfaces ≡ interfaces_after_history p x (map entry_view r.replayed.entries.items) (config_view r.replayed.config))
LedGives p x from text (Err (error.Refused v)) = Unreplayed p x.config from text v
LedGives p x from text (Err error.NoMemory) = Unit {0}
