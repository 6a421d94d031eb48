-- What a text is read as, line by line, and the first line that isn't read.
use Rattle.std.specs.Prelude.{◌≡◌, ◌⊎◌, ℕ, ◌+◌, ◌<◌, List, [], ◌∷◌, length, Option, Some, None}
use Rattle.pat_semantics_spec.specs.Runs.{Entry}
use Rattle.pat_texts_spec.specs.Joined.{cut}
use Rattle.pat_history_spec.specs.HistoryText.{marker}
use Rattle.pat_history_spec.specs.EntryReading.{read_entry}

-- the bytes are lines that are read as the entries, and then the rest
abbrev pub ReadsLines : List ℕ → List Entry → List ℕ → Type 0
ReadsLines bytes [] rest = bytes ≡ rest
ReadsLines bytes (e ∷ es) rest = (r : List ℕ × List ℕ) × (cut 10 bytes ≡ Some r) × (read_entry r.0 ≡ Some e) × ReadsLines r.1 es rest

-- the text is a first line, then lines that are read as the entries, and then the rest
pub record ReadsTo (text : List ℕ) (es : List Entry) (rest : List ℕ) : Type 0 where
  pub body : List ℕ
  pub first : cut 10 text ≡ Some (marker, body)
  pub lines : ReadsLines body es rest

-- the whole text is read as the history
abbrev pub ReadsAs : List ℕ → List Entry → Type 0
ReadsAs text es = ReadsTo text es []

-- no first line stands here
abbrev pub NoMarker : Option (List ℕ × List ℕ) → Type 0
NoMarker None = Unit {0}
NoMarker (Some r) = r.0 ≡ marker → ⊥

-- no line of an entry stands here: no line ends, or it isn't read
abbrev pub NoEntry : Option (List ℕ × List ℕ) → Type 0
NoEntry None = Unit {0}
NoEntry (Some r) = read_entry r.0 ≡ None

-- a line begins at the offset that isn't read, and those before it are
pub record StopsAt (text : List ℕ) (offset : ℕ) : Type 0 where
  pub entries : List Entry
  pub rest : List ℕ
  pub read : ReadsTo text entries rest
  pub some : 0 < length rest
  pub at : offset + length rest ≡ length text
  pub unread : NoEntry (cut 10 rest)

-- the first line that isn't read begins at the offset
abbrev pub Unread : List ℕ → ℕ → Type 0
Unread text offset = (NoMarker (cut 10 text) × (offset ≡ 0)) ⊎ StopsAt text offset
