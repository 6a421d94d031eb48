-- Inputs that are the text of a program, and behind it those of a derivation and of a checkpoint.
use Rattle.std.specs.Prelude.{◌≡◌, ◌≢◌, ◌⊎◌, ◌≤◌, ℕ, List, length}
use Rattle.pat_semantics_spec.specs.Programs.{Program}
use Rattle.pat_derivation_text_spec.specs.DerivationText.{marker}
use Rattle.pat_checkpoint_spec.specs.text.CheckpointText.{marker as checkpoint_marker}
use Rattle.pat_input.specs.Inputs.{limit, whole_limit}
use Rattle.pat_input_split.specs.Marked.{IsMarked, IsUnmarked}
use Rattle.pat_input_split.specs.program_with_text.MarkedPrograms.{HasProgram, RefusesBytes, RefusesFront}
use Rattle.pat_front.specs.declared.verdict.Verdict.{Verdict}
use Rattle.pat_front.specs.declared.verdict.Verdict.TheVariants as verdict

-- a checkpoint stands behind a derivation
abbrev pub HasCheckpoint : List ℕ → Type 0
HasCheckpoint text = (derivation : List ℕ) × (checkpoint : List ℕ) × IsMarked checkpoint_marker text derivation checkpoint

-- so behind something that a derivation stands behind
pub record HasMarks (bytes : List ℕ) : Type 0 where
  pub front : List ℕ
  pub text : List ℕ
  pub marked : IsMarked marker bytes front text
  pub has : HasCheckpoint text

-- the bytes are few enough; they are the front, which is the text of the program, from the first line `%%derivation` on the derivation's
-- text, and from the first line `%%checkpoint` after it the checkpoint's
pub record HasParts (bytes front derivation checkpoint : List ℕ) (p : Program) : Type 0 where
  pub behind : List ℕ
  pub has : HasProgram marker bytes front behind p
  pub marked : IsMarked checkpoint_marker behind derivation checkpoint

-- what is in front of the derivation is refused; unless it is too long, a checkpoint stands behind
pub record RefusesProgram (bytes : List ℕ) (v : Verdict) : Type 0 where
  pub front : RefusesFront marker bytes v
  pub whole : v ≢ verdict.TooLong → HasCheckpoint front.text

-- behind a program that isn't too long, whatever it is, there is a derivation and no checkpoint
pub record LacksCheckpoint (bytes : List ℕ) (v : Verdict) : Type 0 where
  pub small : length bytes ≤ whole_limit
  pub front : List ℕ
  pub text : List ℕ
  pub marked : IsMarked marker bytes front text
  pub few : length front ≤ limit
  pub unmarked : IsUnmarked checkpoint_marker text
  pub is : v ≡ verdict.BadText (length bytes)

-- why the bytes have no such parts
abbrev pub IsPartsRefusal : List ℕ → Verdict → Type 0
IsPartsRefusal bytes v = RefusesBytes marker bytes v ⊎ (RefusesProgram bytes v ⊎ LacksCheckpoint bytes v)
