-- Inputs of two parts: a program, and a text that begins with the first line that is exactly its mark.
use Rattle.std.specs.Prelude.{◌≡◌, ℕ, List, [], ◌∷◌, ◌++◌, Option, Some, None}
use Rattle.pat_texts_spec.specs.Joined.{cut}

-- a line is a run of bytes up to a newline, or to the end
abbrev pub line_or_all : Option (List ℕ × List ℕ) → List ℕ → List ℕ
line_or_all None bytes = bytes
line_or_all (Some r) bytes = r.0

abbrev pub first_line : List ℕ → List ℕ
first_line bytes = line_or_all (cut 10 bytes) bytes

-- the front is whole lines of the bytes, none of which is the mark, and the rest comes behind them
pub data Precedes (mark bytes : List ℕ) : List ℕ → List ℕ → Type 0 where
  no_lines : Precedes mark bytes [] bytes
  another_line : {front rest line more : List ℕ} → Precedes mark bytes front rest → cut 10 rest ≡ Some (line, more) → (line ≡ mark → ⊥) → Precedes mark bytes (front ++ (line ++ 10 ∷ [])) more

-- the bytes are those of the program, and then those of the text, whose first line is the first that is the mark
pub record IsMarked (mark bytes program text : List ℕ) : Type 0 where
  pub before : Precedes mark bytes program text
  pub marked : first_line text ≡ mark

-- no line of the bytes is the mark
pub record IsUnmarked (mark bytes : List ℕ) : Type 0 where
  pub front : List ℕ
  pub last : List ℕ
  pub before : Precedes mark bytes front last
  pub no_line : cut 10 last ≡ None
  pub unmarked : last ≡ mark → ⊥
