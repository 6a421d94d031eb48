-- The lines of a checkpoint's text, with the inclusions that they need and the certificates that show them.
use Rattle.std.specs.Prelude.{◌≡◌, ℕ, suc, zero, Bool, true, false, ◌&&◌, List, [], ◌∷◌, ◌++◌, map, reverse, Option, Some, None, IsTrue}
use Rattle.std.specs.List.{AllByRecursion}
use Rattle.pat_semantics_spec.specs.Programs.{Program}
use Rattle.pat_semantics_spec.specs.Configs.{Frame, Thread, Config}
use Rattle.pat_inclusion_spec.specs.Patterns.{subst_of}
use Rattle.pat_inclusion_spec.specs.Covers.{CoverEntry}
use Rattle.pat_inclusion_spec.specs.Values.{Scope, pattern_of, is_formed}
use Rattle.pat_inclusion_spec.specs.Certificates.{Cert, Inclusion, is_trivial, cover_shows, grid_shows}
use Rattle.pat_type_system_spec.specs.Typings.{Typing}
use Rattle.pat_type_system_spec.specs.Holdings.{wanted}
use Rattle.pat_checkpoint_spec.specs.Checkpoints.{PartCerts, Checkpoint}
use Rattle.pat_checkpoint_spec.specs.Kinds.{type_needs, is_certified, control_needs}
use Rattle.pat_checkpoint_spec.specs.Balances.{balance_needs}

-- what each frame needs, the next one first
abbrev pub frames_need : Program → Typing → List Frame → List (Option Inclusion)
frames_need p y [] = []
frames_need p y (f ∷ fs) = type_needs (y.results f.body) (wanted p y fs) ∷ frames_need p y fs

-- what the lines of the threads need: a line for the control, and then those of the frames from the last one up
abbrev pub threads_need : Program → Typing → List (ℕ × Thread) → List (Option Inclusion)
threads_need p y [] = []
threads_need p y (e ∷ es) = (control_needs p y e.1.control e.1.frames ∷ reverse (frames_need p y e.1.frames)) ++ threads_need p y es

-- what each line of the text needs: the marker, the next numbers, mailboxes, messages, threads
abbrev pub lines_need : Program → Typing → (ℕ → ℕ) → Config → List (Option Inclusion)
lines_need p y interfaces c =
    None ∷ None ∷ (map (λ a. Some (balance_needs p y interfaces c a)) c.live ++ (map (λ m. None) c.messages ++ threads_need p y c.threads))

-- the certificates of the lines of the threads
abbrev pub threads_certs : List PartCerts → List (Option Cert)
threads_certs [] = []
threads_certs (k ∷ ks) = (k.control ∷ reverse k.frames) ++ threads_certs ks

-- the certificates of the lines
abbrev pub lines_certs : Checkpoint → List (Option Cert)
lines_certs x = None ∷ None ∷ (x.mailbox_certs ++ (map (λ m. None) x.config.messages ++ threads_certs x.part_certs))

-- each line has the certificate that shows what it needs, or none where none is due
abbrev pub each_certified : Scope → List (Option Inclusion) → List (Option Cert) → Bool
each_certified s [] [] = true
each_certified s (q ∷ qs) (k ∷ ks) = is_certified s q k && each_certified s qs ks
each_certified s _ _ = false

-- ---- what can be shown

-- the inclusion is trivial, or directly covered by closed forms that aren't too large, or shown by the grid with this bound, if there is one
pub data IsShowable (s : Scope) (bound : ℕ → Option ℕ) (q : Inclusion) : Type 0 where
  by_itself : IsTrue (is_trivial s q.left q.right) → IsShowable s bound q
  by_cover :
      (i : ℕ) (entries : List CoverEntry)
      → q.interface ≡ Some i
      → IsTrue (cover_shows (s.tags i) entries (subst_of (pattern_of s) q.left) (subst_of (pattern_of s) q.right))
      → IsShowable s bound q
  by_grid : (i k : ℕ) → q.interface ≡ Some i → bound i ≡ Some k → IsTrue (grid_shows s k (s.tags i) q.left q.right) → IsShowable s bound q

-- the inclusion, if one is needed, can be shown
abbrev pub CanBeShown : Scope → (ℕ → Option ℕ) → Option Inclusion → Type 0
CanBeShown s bound None = Unit {0}
CanBeShown s bound (Some q) = IsShowable s bound q

-- line n, counted from 1, is the first whose inclusion can't be shown
abbrev pub IsFirstUnshown : Scope → (ℕ → Option ℕ) → List (Option Inclusion) → ℕ → Type 0
IsFirstUnshown s bound [] n = ⊥
IsFirstUnshown s bound (q ∷ qs) zero = ⊥
IsFirstUnshown s bound (q ∷ qs) (suc zero) = CanBeShown s bound q → ⊥
IsFirstUnshown s bound (q ∷ qs) (suc (suc n)) = CanBeShown s bound q × IsFirstUnshown s bound qs (suc n)

-- both sides of the inclusion, if one is needed, are patterns of its interface
abbrev pub IsFormedNeed : Scope → Option Inclusion → Type 0
IsFormedNeed s None = Unit {0}
IsFormedNeed s (Some q) = (i : ℕ) × (q.interface ≡ Some i) × IsTrue (is_formed s i q.left) × IsTrue (is_formed s i q.right)

abbrev pub NeedsFormed : Scope → List (Option Inclusion) → Type 0
NeedsFormed s qs = AllByRecursion (IsFormedNeed s) qs
