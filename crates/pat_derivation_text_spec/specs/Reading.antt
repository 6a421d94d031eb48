-- What a text is read as, line by line, and the first line that isn't read.
use Rattle.std.specs.Prelude.{◌≡◌, ℕ, ◌+◌, List, [], ◌∷◌, length, Option, Some, None}
use Rattle.pat_semantics_spec.specs.Programs.{Program}
use Rattle.pat_derivation_spec.specs.Derivations.{Derivation}
use Rattle.pat_texts_spec.specs.Joined.{cut}
use Rattle.pat_derivation_text_spec.specs.DerivationText.{marker}
use Rattle.pat_derivation_text_spec.specs.LineReading.{with_line}

-- no variable and no node
abbrev pub no_lines : Derivation
no_lines = record { vars = []; lines = [] }

-- the text up to the rest is a first line and then lines that are read as the derivation
pub data ReadsTo (p : Program) (text : List ℕ) : Derivation → List ℕ → Type 0 where
  first : {rest : List ℕ} → cut 10 text ≡ Some (marker, rest) → ReadsTo p text no_lines rest
  another : {d e : Derivation} {rest line more : List ℕ} → ReadsTo p text d rest → cut 10 rest ≡ Some (line, more) → with_line p d line ≡ Some e → ReadsTo p text e more

-- the whole text is read as the derivation
abbrev pub ReadsAs : Program → List ℕ → Derivation → Type 0
ReadsAs p text d = ReadsTo p text d []

-- no line that goes on with the derivation stands here: no line ends, or it isn't read
abbrev pub NoLine : Program → Derivation → List ℕ → Option (List ℕ × List ℕ) → Type 0
NoLine p d rest None = Unit {0}
NoLine p d rest (Some r) = with_line p d r.0 ≡ None

-- no first line stands here
abbrev pub NoMarker : Option (List ℕ × List ℕ) → Type 0
NoMarker None = Unit {0}
NoMarker (Some r) = r.0 ≡ marker → ⊥

-- the first line that isn't read begins at the offset
pub data Unread (p : Program) (text : List ℕ) : ℕ → Type 0 where
  no_marker : NoMarker (cut 10 text) → Unread p text 0
  no_line : {d : Derivation} {b : ℕ} {rest : List ℕ} {offset : ℕ} → ReadsTo p text d (b ∷ rest) → offset + length (b ∷ rest) ≡ length text → NoLine p d (b ∷ rest) (cut 10 (b ∷ rest)) → Unread p text offset
