-- Checkpoints that are checked, behind the texts of a program and of a derivation.
use Rattle.std.specs.Prelude.{◌≡◌, ◌⊎◌, ◌+◌, ◌&&◌, nat_le, if◌then◌else◌, ℕ, Bool, IsTrue, List, length, Option, Some}
use Rattle.pat_semantics_spec.specs.Programs.{Program}
use Rattle.pat_semantics_spec.specs.Configs.{Config}
use Rattle.pat_derivation_spec.specs.Derivations.{Derivation}
use Rattle.pat_derivation_spec.specs.Validity.{first_bad, IsValid}
use Rattle.pat_derivation_text_spec.specs.Reading as derivation_text
use Rattle.pat_judge.specs.Views.{rule_view}
use Rattle.pat_checkpoint_spec.specs.Checkpoints.{Checkpoint}
use Rattle.pat_checkpoint_spec.specs.Checked.{CheckRule, NumbersRule, broken_check, IsChecked}
use Rattle.pat_checkpoint_spec.specs.text.Reading as checkpoint_text
use Rattle.pat_checkpoint_checks.specs.Answers.{check_rule_view}
use Rattle.pat_checkpoint_run.specs.NextNumbers.{most_next_number}
use Rattle.pat_front.specs.declared.verdict.Verdict.{Verdict}
use Rattle.pat_front.specs.declared.verdict.Verdict.TheVariants as verdict
use Rattle.pat_checkpoint_input.specs.Parts.{HasParts, IsPartsRefusal}

-- whether each next number is one from which a run goes on
abbrev pub has_room : Config → Bool
has_room c = nat_le c.next_thread most_next_number && (nat_le c.next_mailbox most_next_number && nat_le c.next_message most_next_number)

-- the first rule that is broken, where the rule on numbers asks for room besides
abbrev pub first_broken : Program → Derivation → Checkpoint → Option CheckRule
first_broken p d x = if has_room x.config then broken_check p d x else Some NumbersRule

-- ---- behind a program

-- the texts spell this derivation of the program, which is valid, and this checkpoint, which is checked by it and has room
pub record HasChecked (p : Program) (derivation checkpoint : List ℕ) (d : Derivation) (x : Checkpoint) : Type 0 where
  pub read : derivation_text.ReadsAs p derivation d
  pub spelled : checkpoint_text.ReadsAs p checkpoint x
  pub checked : IsChecked p d x
  pub room : IsTrue (has_room x.config)

-- the derivation's text is read, and a line of the checkpoint's isn't, the first of them
abbrev pub HasBadCheckpointText : Program → (derivation checkpoint : List ℕ) → (offset : ℕ) → Type 0
HasBadCheckpointText p derivation checkpoint offset =
    ((d : Derivation) × derivation_text.ReadsAs p derivation d) × checkpoint_text.Unread p checkpoint offset

-- why there is none; the first byte of the derivation's text has this offset
abbrev pub Unchecked : Program → (from : ℕ) → (derivation checkpoint : List ℕ) → Verdict → Type 0
Unchecked p from derivation checkpoint (verdict.BadText o) =
    ((offset : ℕ) × (o ≡ from + offset) × derivation_text.Unread p derivation offset)
    ⊎ ((offset : ℕ) × (o ≡ from + length derivation + offset) × HasBadCheckpointText p derivation checkpoint offset)
Unchecked p from derivation checkpoint (verdict.Rejected n r) =
    (d : Derivation)
    × derivation_text.ReadsAs p derivation d
    × (first_bad p d ≡ Some (n, rule_view r))
    × ((x : Checkpoint) × checkpoint_text.ReadsAs p checkpoint x)
Unchecked p from derivation checkpoint (verdict.BadCheckpoint r) =
    (d : Derivation)
    × derivation_text.ReadsAs p derivation d
    × IsValid p d
    × ((x : Checkpoint) × checkpoint_text.ReadsAs p checkpoint x × (first_broken p d x ≡ Some (check_rule_view r)))
Unchecked p from derivation checkpoint _ = ⊥

-- ---- whole inputs

-- the bytes are the texts of the program, of this derivation of it, which is valid, and of this checkpoint, which is checked by it and has room
pub record HasCheckedParts (bytes : List ℕ) (p : Program) (d : Derivation) (x : Checkpoint) : Type 0 where
  pub front : List ℕ
  pub derivation : List ℕ
  pub checkpoint : List ℕ
  pub has : HasParts bytes front derivation checkpoint p
  pub checked : HasChecked p derivation checkpoint d x

-- so of some program, derivation and checkpoint
pub record IsCheckedInput (bytes : List ℕ) : Type 0 where
  pub program : Program
  pub shown : Derivation
  pub from : Checkpoint
  pub parts : HasCheckedParts bytes program shown from

-- what is behind the program isn't a checked checkpoint
pub record RefusesTexts (bytes : List ℕ) (v : Verdict) : Type 0 where
  pub front : List ℕ
  pub derivation : List ℕ
  pub checkpoint : List ℕ
  pub program : Program
  pub has : HasParts bytes front derivation checkpoint program
  pub unchecked : Unchecked program (length front) derivation checkpoint v

-- why the bytes are refused
abbrev pub IsCheckpointRefusal : List ℕ → Verdict → Type 0
IsCheckpointRefusal bytes v = IsPartsRefusal bytes v ⊎ RefusesTexts bytes v
