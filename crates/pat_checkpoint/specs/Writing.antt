-- What a typed configuration is written as, and why it isn't.
use Rattle.std.specs.Prelude.{◌≡◌, ℕ, List}
use Rattle.pat_semantics_spec.specs.Programs.{Program}
use Rattle.pat_semantics_spec.specs.Configs.{Config}
use Rattle.pat_derivation_spec.specs.Derivations.{Derivation, scope_of, written_typing}
use Rattle.pat_checkpoint_spec.specs.Checkpoints.{Checkpoint, interface_at}
use Rattle.pat_checkpoint_spec.specs.Checked.{IsChecked}
use Rattle.pat_checkpoint_spec.specs.Resumed.{silent}
use Rattle.pat_checkpoint_spec.specs.Written.{lines_need, IsFirstUnshown}
use Rattle.pat_checkpoint_spec.specs.text.CheckpointText.{checkpoint_text}
use Rattle.pat_checkpoint_spec.specs.text.Reading.{ReadsAs}
use Rattle.pat_checkpoint_certificates.specs.Bounds.{bound_in}
use Rattle.pat_checkpoint_certificates.specs.Certified.{AllCanBeShown}
use Rattle.pat_checkpoint.specs.declared.error.WriteError.{WriteError}
use Rattle.pat_checkpoint.specs.declared.error.WriteError.TheVariants.{Unshown, NoMemory}

-- the text is that of a checkpoint of the configuration without its printed lines, with these interfaces, that the derivation shows typed;
-- and it is read as this checkpoint. What each line needs can be shown
pub record IsWritten (p : Program) (d : Derivation) (c : Config) (given : List ℕ) (text : List ℕ) : Type 0 where
  pub checkpoint : Checkpoint
  pub config : checkpoint.config ≡ silent c
  pub interfaces : checkpoint.interfaces ≡ given
  pub checked : IsChecked p d checkpoint
  pub shown : text ≡ checkpoint_text p checkpoint
  pub read : ReadsAs p text checkpoint
  pub showable : AllCanBeShown p d c given

-- the line is the first that needs an inclusion which can't be shown; want of memory says nothing
abbrev pub IsRefusal : Program → Derivation → Config → List ℕ → WriteError → Type 0
IsRefusal p d c interfaces (Unshown line) =
    IsFirstUnshown (scope_of p d) (bound_in p) (lines_need p (written_typing p d) (interface_at c.live interfaces) c) line
IsRefusal p d c interfaces NoMemory = Unit {0}
