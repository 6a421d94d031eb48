-- What a text is read as, line by line, and the first line that isn't read.
use Rattle.std.specs.Prelude.{◌≡◌, ℕ, ◌+◌, List, [], ◌∷◌, length, Option, Some, None}
use Rattle.pat_semantics_spec.specs.Programs.{Program}
use Rattle.pat_texts_spec.specs.Joined.{cut}
use Rattle.pat_checkpoint_spec.specs.Checkpoints.{Checkpoint}
use Rattle.pat_checkpoint_spec.specs.text.Lines.{Lines, checkpoint_of}
use Rattle.pat_checkpoint_spec.specs.text.CheckpointText.{marker}
use Rattle.pat_checkpoint_spec.specs.text.LineReading.{read_next, with_line}

-- the text up to the rest is a first line, the next numbers, and then lines that are read as these
pub data ReadsTo (p : Program) (text : List ℕ) : Lines → List ℕ → Type 0 where
  first : {body line rest : List ℕ} {x : Lines} → cut 10 text ≡ Some (marker, body) → cut 10 body ≡ Some (line, rest) → read_next line ≡ Some x → ReadsTo p text x rest
  another : {x y : Lines} {rest line more : List ℕ} → ReadsTo p text x rest → cut 10 rest ≡ Some (line, more) → with_line p x line ≡ Some y → ReadsTo p text y more

-- the whole text is read as the checkpoint
pub record ReadsAs (p : Program) (text : List ℕ) (x : Checkpoint) : Type 0 where
  pub lines : Lines
  pub read : ReadsTo p text lines []
  pub is : checkpoint_of lines ≡ x

-- no first line stands here
abbrev pub NoMarker : Option (List ℕ × List ℕ) → Type 0
NoMarker None = Unit {0}
NoMarker (Some r) = r.0 ≡ marker → ⊥

-- no line of next numbers stands here: no line ends, or it isn't read
abbrev pub NoNext : Option (List ℕ × List ℕ) → Type 0
NoNext None = Unit {0}
NoNext (Some r) = read_next r.0 ≡ None

-- no line that goes on with these stands here: no line ends, or it isn't read
abbrev pub NoLine : Program → Lines → Option (List ℕ × List ℕ) → Type 0
NoLine p x None = Unit {0}
NoLine p x (Some r) = with_line p x r.0 ≡ None

-- the first line that isn't read begins at the offset; where the text ends before its next numbers, that is its end
pub data Unread (p : Program) (text : List ℕ) : ℕ → Type 0 where
  no_marker : NoMarker (cut 10 text) → Unread p text 0
  no_next : {body : List ℕ} {offset : ℕ} → cut 10 text ≡ Some (marker, body) → offset + length body ≡ length text → NoNext (cut 10 body) → Unread p text offset
  no_line : {x : Lines} {b : ℕ} {rest : List ℕ} {offset : ℕ} → ReadsTo p text x (b ∷ rest) → offset + length (b ∷ rest) ≡ length text → NoLine p x (cut 10 (b ∷ rest)) → Unread p text offset
