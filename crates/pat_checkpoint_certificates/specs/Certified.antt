-- What is answered where certificates of a configuration are sought.
use Rattle.std.specs.Prelude.{◌≡◌, ℕ, List, length}
use Rattle.std.specs.List.{AllByRecursion}
use Rattle.pat_semantics_spec.specs.Programs.{Program}
use Rattle.pat_semantics_spec.specs.Configs.{Config}
use Rattle.pat_type_system_spec.specs.Typed.{IsTyped}
use Rattle.pat_derivation_spec.specs.Derivations.{Derivation, scope_of, written_typing, typing_of}
use Rattle.pat_checkpoint_spec.specs.Checkpoints.{Checkpoint, interface_at}
use Rattle.pat_checkpoint_spec.specs.Written.{lines_need, CanBeShown, IsFirstUnshown}
use Rattle.pat_checkpoint_spec.specs.Checked.{IsChecked}
use Rattle.pat_checkpoint_spec.specs.Resumed.{silent_checkpoint}
use Rattle.pat_checkpoint_certificates.specs.Bounds.{bound_in}
use Rattle.pat_checkpoint_certificates.specs.declared.error.CertifyError.{CertifyError}
use Rattle.pat_checkpoint_certificates.specs.declared.error.CertifyError.TheVariants.{Unshown, NoMemory}

-- the configuration is typed by the derivation, where its live mailboxes have these interfaces, one for each
pub record CanBeCertified (p : Program) (d : Derivation) (c : Config) (interfaces : List ℕ) : Type 0 where
  pub count : length interfaces ≡ length c.live
  pub typed : IsTyped p (typing_of p d) (interface_at c.live interfaces) c

-- what each line needs can be shown
abbrev pub AllCanBeShown : Program → Derivation → Config → List ℕ → Type 0
AllCanBeShown p d c interfaces =
    AllByRecursion (CanBeShown (scope_of p d) (bound_in p)) (lines_need p (written_typing p d) (interface_at c.live interfaces) c)

-- the configuration without its printed lines and with certificates, each of which shows what its line needs: it is checked. So what each line
-- needs can be shown, and none is refused
pub record IsCertified (p : Program) (d : Derivation) (c : Config) (interfaces : List ℕ) (x : Checkpoint) : Type 0 where
  pub is : x ≡ silent_checkpoint c interfaces x.mailbox_certs x.part_certs
  pub checked : IsChecked p d x
  pub showable : AllCanBeShown p d c interfaces

-- the line is the first whose inclusion can't be shown: it isn't trivial, isn't directly covered by closed forms that aren't too large, and isn't
-- shown by a grid with the bound that solving takes
abbrev pub IsUnshown : Program → Derivation → Config → List ℕ → CertifyError → Type 0
IsUnshown p d c interfaces (Unshown line) =
    IsFirstUnshown (scope_of p d) (bound_in p) (lines_need p (written_typing p d) (interface_at c.live interfaces) c) line
IsUnshown p d c interfaces NoMemory = Unit {0}

-- the line has this number, where one is named
abbrev pub IsLine : ℕ → CertifyError → Type 0
IsLine k (Unshown n) = n ≡ k
IsLine k NoMemory = Unit {0}
