-- Checkpoints: a configuration, with the interfaces of its mailboxes and what shows that it is typed.
use Rattle.std.specs.Prelude.{◌≡◌, ℕ, nat_eq, if◌then◌else◌, List, [], ◌∷◌, length, Option}
use Rattle.pat_semantics_spec.specs.Configs.{Thread, Config}
use Rattle.pat_inclusion_spec.specs.Certificates.{Cert}

-- the certificates of a thread: its control's, and those of the frames, the next one first
pub record PartCerts : Type 0 where
  pub control : Option Cert
  pub frames : List (Option Cert)

-- a checkpoint: a configuration, and in its order the interface of each live mailbox, a certificate for the balance of each that needs one,
-- and for each thread those of its parts
pub record Checkpoint : Type 0 where
  pub config : Config
  pub interfaces : List ℕ
  pub mailbox_certs : List (Option Cert)
  pub part_certs : List PartCerts

-- there are as many places for certificates as there are frames, and as many of those as there are threads
abbrev pub PartsAlign : List (ℕ × Thread) → List PartCerts → Type 0
PartsAlign [] [] = Unit {0}
PartsAlign (e ∷ es) (k ∷ ks) = (length k.frames ≡ length e.1.frames) × PartsAlign es ks
PartsAlign _ _ = ⊥

-- each live mailbox has an interface and a place for a certificate, each part has a place for one, and nothing was printed
pub record IsAligned (x : Checkpoint) : Type 0 where
  pub interfaces : length x.interfaces ≡ length x.config.live
  pub mailboxes : length x.mailbox_certs ≡ length x.config.live
  pub parts : PartsAlign x.config.threads x.part_certs
  pub silent : x.config.printed ≡ []

-- the interface that stands at the place of the mailbox; 0 where there is none
abbrev pub interface_at : List ℕ → List ℕ → ℕ → ℕ
interface_at (b ∷ bs) (i ∷ is) a = if nat_eq a b then i else interface_at bs is a
interface_at _ _ a = 0

-- the interfaces of the checkpoint's mailboxes
abbrev pub interfaces_of : Checkpoint → ℕ → ℕ
interfaces_of x a = interface_at x.config.live x.interfaces a
