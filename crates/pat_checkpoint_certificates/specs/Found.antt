-- What is found for one line, and for several.
use Rattle.std.specs.Prelude.{◌≡◌, ℕ, suc, ◌+◌, Bool, List, Option, Some, None, IsTrue}
use Rattle.std.specs.List.{AllByRecursion}
use Rattle.pat_words_spec.specs.Patterns.{Pat}
use Rattle.pat_inclusion_spec.specs.Values.{Scope}
use Rattle.pat_inclusion_spec.specs.Certificates.{Inclusion, Cert, GridCert, cover_shows, grid_shows}
use Rattle.pat_inclusion_spec.specs.Covers.{CoverEntry}
use Rattle.pat_type_system_spec.specs.Types.{TypeOf, BaseTerm}
use Rattle.pat_semantics_spec.specs.Values.{BaseUnit}
use Rattle.pat_checkpoint_spec.specs.Kinds.{is_certified}
use Rattle.pat_checkpoint_spec.specs.Written.{CanBeShown, IsFirstUnshown}
use Rattle.pat_cover_certificates.specs.declared.cover.CoverEntry.{CoverEntry as CodeEntry}
use Rattle.pat_cover_certificates.specs.Views.{entries_view}
use Rattle.pat_derivations.specs.declared.data.Cert.{Cert as CodeCert}
use Rattle.pat_derivations.specs.Views.{cert_view}
use Rattle.pat_checkpoint_data.specs.Views.{end_view}
use Rattle.pat_checkpoint_certificates.specs.declared.error.CertifyError.{CertifyError}
use Rattle.pat_checkpoint_certificates.specs.declared.error.CertifyError.TheVariants.{Unshown, NoMemory}

-- the type of a node, if it has one, and otherwise unit
abbrev pub or_unit : Option TypeOf → TypeOf
or_unit None = BaseTerm BaseUnit
or_unit (Some t) = t

-- what is needed, if anything, is shown by the certificate, or without one; and it can be shown
pub record IsShownBy (s : Scope) (bound : ℕ → Option ℕ) (q : Option Inclusion) (cert : Option Cert) : Type 0 where
  pub certified : IsTrue (is_certified s q cert)
  pub showable : CanBeShown s bound q

-- so it is, where something is found; and where nothing is it can't be shown
abbrev pub IsFound : Scope → (ℕ → Option ℕ) → Option Inclusion → Option (Option CodeCert) → Type 0
IsFound s bound q None = CanBeShown s bound q → ⊥
IsFound s bound q (Some cert) = IsShownBy s bound q (end_view cert)

-- the certificates of some lines pass a test, and what the lines need can be shown
pub record AreFound (s : Scope) (bound : ℕ → Option ℕ) (passes : Bool) (qs : List (Option Inclusion)) : Type 0 where
  pub certified : IsTrue passes
  pub showable : AllByRecursion (CanBeShown s bound) qs

-- of some lines, the first of which has this number: the first one that can't be shown
abbrev pub IsUnshownFrom : Scope → (ℕ → Option ℕ) → ℕ → List (Option Inclusion) → CertifyError → Type 0
IsUnshownFrom s bound line qs (Unshown n) = (k : ℕ) × (n ≡ line + k) × IsFirstUnshown s bound qs (suc k)
IsUnshownFrom s bound line qs NoMemory = Unit {0}

-- the entries are a direct cover of closed forms that aren't too large; none where there is no such cover
abbrev pub IsCover : ℕ → Pat → Pat → Option (List CodeEntry) → Type 0
IsCover n e f None = (entries : List CoverEntry) → IsTrue (cover_shows n entries e f) → ⊥
IsCover n e f (Some entries) = IsTrue (cover_shows n (entries_view entries) e f)

-- the certificate is the grid with the bound of the interface, which shows the inclusion; none where there is no bound or it doesn't
abbrev pub IsGrid : Scope → (ℕ → Option ℕ) → ℕ → Pat → Pat → Option CodeCert → Type 0
IsGrid s bound i e f None = (k : ℕ) → bound i ≡ Some k → IsTrue (grid_shows s k (s.tags i) e f) → ⊥
IsGrid s bound i e f (Some cert) = (k : ℕ) × (cert_view cert ≡ GridCert k) × (bound i ≡ Some k) × IsTrue (grid_shows s k (s.tags i) e f)
