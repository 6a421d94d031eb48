-- The balances of live mailboxes, and certificates that are found for a whole checkpoint.
use Rattle.std.specs.Prelude.{◌≡◌, ℕ, List, map, Option, Some, slice_get, IsTrue}
use Rattle.std.specs.List.{AllByRecursion}
use Rattle.pat_semantics_spec.specs.Programs.{Program}
use Rattle.pat_inclusion_spec.specs.Certificates.{Cert, Inclusion}
use Rattle.pat_derivation_spec.specs.Derivations.{Derivation, scope_of, written_typing}
use Rattle.pat_checkpoint_spec.specs.Checkpoints.{PartCerts, Checkpoint, interfaces_of}
use Rattle.pat_checkpoint_spec.specs.Kinds.{threads_shown}
use Rattle.pat_checkpoint_spec.specs.Balances.{balance_needs, balances_shown}
use Rattle.pat_checkpoint_spec.specs.Written.{each_certified, CanBeShown}
use Rattle.pat_derivations.specs.declared.data.Cert.{Cert as CodeCert}
use Rattle.pat_derivations.specs.Views.{derivation_view}
use Rattle.pat_checkpoint_data.specs.declared.data.Checkpoint.{Checkpoint as CodeCheckpoint}
use Rattle.pat_checkpoint_data.specs.Views.{end_view, checkpoint_view}
use Rattle.pat_checkpoint_certificates.specs.Searches.{program_in, scope_in, typing_in, bounds_in}
use Rattle.pat_checkpoint_certificates.specs.Found.{IsShownBy, AreFound}
use Rattle.pat_checkpoint_certificates.specs.declared.search.Search.{Search}

-- what the balances of these mailboxes need
abbrev pub balances_need : Program → Derivation → Checkpoint → List ℕ → List (Option Inclusion)
balances_need p d x live = map (λ a. Some (balance_needs p (written_typing p d) (interfaces_of x) x.config a)) live

-- the inclusions of the checkpoint are shown by these certificates in place of its own
pub record AreCertsOf (p : Program) (d : Derivation) (x : Checkpoint) (mailboxes : List (Option Cert)) (parts : List PartCerts) : Type 0 where
  pub balances : IsTrue (balances_shown (scope_of p d) (balance_needs p (written_typing p d) (interfaces_of x) x.config) x.config.live x.interfaces mailboxes)
  pub threads : IsTrue (threads_shown p (written_typing p d) (scope_of p d) x.config.threads parts)

-- what the balances of these mailboxes need can be shown
abbrev pub BalancesCanBeShown : Search → CodeCheckpoint → List ℕ → Type 0
BalancesCanBeShown s x live =
    AllByRecursion (CanBeShown (scope_in s) (bounds_in s)) (balances_need (program_in s) (derivation_view s.derivation.now) (checkpoint_view x) live)

-- the certificate shows the balance of the live mailbox at the place
abbrev pub BalanceFoundAt : Search → CodeCheckpoint → ℕ → Option CodeCert → Type 0
BalanceFoundAt s x place cert =
    (a : ℕ)
    → slice_get x.config.live place ≡ Some a
    → IsShownBy (scope_in s) (bounds_in s) (Some (balance_needs (program_in s) (typing_in s) (interfaces_of (checkpoint_view x)) (checkpoint_view x).config a)) (end_view cert)

-- the certificates of the balances of these mailboxes show what they need
abbrev pub BalancesFound : Search → CodeCheckpoint → List ℕ → List (Option CodeCert) → Type 0
BalancesFound s x live certs =
    AreFound (scope_in s) (bounds_in s) (each_certified (scope_in s) (balances_need (program_in s) (derivation_view s.derivation.now) (checkpoint_view x) live) (map end_view certs)) (balances_need (program_in s) (derivation_view s.derivation.now) (checkpoint_view x) live)
