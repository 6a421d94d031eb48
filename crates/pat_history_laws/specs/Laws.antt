-- The laws of the texts of histories.
use Rattle.std.specs.Prelude.{◌≡◌, ◌≤◌, ◌⊎◌, ℕ, List, ◌++◌, length}
use Rattle.pat_semantics_spec.specs.Runs.{Entry}
use Rattle.pat_history_spec.specs.HistoryText.{history_text}
use Rattle.pat_history_spec.specs.Reading.{ReadsTo, ReadsAs, Unread}
use Rattle.pat_history_laws.specs.Readable.{AreReadable}

-- what a text is read as has this text
abbrev pub ReadIsText : Type 0
ReadIsText = (text : List ℕ) (es : List Entry) → ReadsAs text es → text ≡ history_text es

-- and what is read of it, up to any line, is a history that a reader takes
abbrev pub ReadIsReadable : Type 0
ReadIsReadable = (text : List ℕ) (es : List Entry) (rest : List ℕ) → ReadsTo text es rest → AreReadable es

-- the text of a history that a reader takes is read as it
abbrev pub TextIsRead : Type 0
TextIsRead = (es : List Entry) → AreReadable es → ReadsAs (history_text es) es

-- a text is read as a history, or has a first line that isn't read
abbrev pub ReadOrUnread : Type 0
ReadOrUnread = (text : List ℕ) → ((es : List Entry) × ReadsAs text es) ⊎ ((offset : ℕ) × Unread text offset)

-- as one history at most
abbrev pub ReadingIsOne : Type 0
ReadingIsOne = (text : List ℕ) (es fs : List Entry) → ReadsAs text es → ReadsAs text fs → es ≡ fs

-- one such line at most
abbrev pub UnreadIsOne : Type 0
UnreadIsOne = (text : List ℕ) (at other : ℕ) → Unread text at → Unread text other → at ≡ other

-- and not both
abbrev pub UnreadIsNotRead : Type 0
UnreadIsNotRead = (text : List ℕ) (offset : ℕ) (es : List Entry) → Unread text offset → ReadsAs text es → ⊥

-- where the first line that isn't read begins, the text goes on as none of a history does: each that it begins with ends there or before
abbrev pub UnreadIsFirst : Type 0
UnreadIsFirst = (text : List ℕ) (offset : ℕ) → Unread text offset → (es : List Entry) (rest : List ℕ) → AreReadable es → text ≡ history_text es ++ rest → length (history_text es) ≤ offset
