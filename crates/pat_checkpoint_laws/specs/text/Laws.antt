-- The laws of the texts of checkpoints.
use Rattle.std.specs.Prelude.{◌≡◌, ◌≤◌, ◌⊎◌, ℕ, true, List, ◌++◌, length}
use Rattle.pat_lexer_spec.specs.Spelled.{IsString}
use Rattle.pat_semantics_spec.specs.Programs.{Program}
use Rattle.pat_resolver_spec.specs.Places.{Places}
use Rattle.pat_resolver_spec.specs.Resolved.{IsResolved}
use Rattle.pat_checkpoint_spec.specs.Checkpoints.{Checkpoint, IsAligned}
use Rattle.pat_checkpoint_spec.specs.text.ValueText.{is_string}
use Rattle.pat_checkpoint_spec.specs.text.Lines.{Lines, checkpoint_of, lines_of}
use Rattle.pat_checkpoint_spec.specs.text.CheckpointText.{lines_text, checkpoint_text}
use Rattle.pat_checkpoint_spec.specs.text.Reading.{ReadsTo, ReadsAs, Unread}
use Rattle.pat_checkpoint_laws.specs.text.Readable.{AreReadable, IsReadable, IsPlain}

-- what a text is read as has this text
abbrev pub ReadIsText : Type 0
ReadIsText = (p : Program) (text : List ℕ) (x : Checkpoint) → ReadsAs p text x → text ≡ checkpoint_text p x

-- and is one that a reader takes
abbrev pub ReadIsReadable : Type 0
ReadIsReadable = (p : Program) (text : List ℕ) (x : Checkpoint) → ReadsAs p text x → IsReadable p x

-- the same of what is read up to any line
abbrev pub FrontIsText : Type 0
FrontIsText = (p : Program) (text : List ℕ) (x : Lines) (rest : List ℕ) → ReadsTo p text x rest → (text ≡ lines_text p x ++ rest) × AreReadable p x

-- a text is read as one checkpoint at most
abbrev pub ReadingIsOne : Type 0
ReadingIsOne = (p : Program) (text : List ℕ) (x y : Checkpoint) → ReadsAs p text x → ReadsAs p text y → x ≡ y

-- a text is read as a checkpoint, or has a first line that isn't read
abbrev pub ReadOrUnread : Type 0
ReadOrUnread = (p : Program) (text : List ℕ) → ((x : Checkpoint) × ReadsAs p text x) ⊎ ((offset : ℕ) × Unread p text offset)

-- one such line at most
abbrev pub UnreadIsOne : Type 0
UnreadIsOne = (p : Program) (text : List ℕ) (at other : ℕ) → Unread p text at → Unread p text other → at ≡ other

-- and not both
abbrev pub UnreadIsNotRead : Type 0
UnreadIsNotRead = (p : Program) (text : List ℕ) (offset : ℕ) (x : Checkpoint) → Unread p text offset → ReadsAs p text x → ⊥

-- the text of a checkpoint that a reader takes is read as it
abbrev pub TextIsRead : Type 0
TextIsRead = (p : Program) (q : Places) → IsResolved p q → (x : Checkpoint) → IsReadable p x → ReadsAs p (checkpoint_text p x) x

-- no two of them have one text
abbrev pub TextIsOne : Type 0
TextIsOne =
    (p : Program) (q : Places) → IsResolved p q → (x y : Checkpoint) → IsReadable p x → IsReadable p y → checkpoint_text p x ≡ checkpoint_text p y → x ≡ y

-- and where the first line that isn't read begins, the text goes on as none of theirs does: each that it begins with ends there or before
abbrev pub UnreadIsFirst : Type 0
UnreadIsFirst =
    (p : Program) (q : Places) → IsResolved p q → (text : List ℕ) (offset : ℕ) → Unread p text offset → (x : Checkpoint) (rest : List ℕ) → IsReadable p x → text ≡ checkpoint_text p x ++ rest → length (checkpoint_text p x) ≤ offset

-- the strings that a reader takes are those that a token of a program's text spells
abbrev pub StringsAreTokens : Type 0
StringsAreTokens = (s : List ℕ) → (IsString s → is_string s ≡ true) × (is_string s ≡ true → IsString s)

-- the lines of a checkpoint make it again, as those that a checkpoint is made of are its lines
abbrev pub LinesMakeCheckpoint : Type 0
LinesMakeCheckpoint = (x : Checkpoint) → IsAligned x → checkpoint_of (lines_of x) ≡ x

abbrev pub CheckpointHasLines : Type 0
CheckpointHasLines = (x : Lines) → (lines_of (checkpoint_of x) ≡ x) × IsAligned (checkpoint_of x)

-- a checkpoint whose own lists are ones that a reader takes is one
abbrev pub PlainIsReadable : Type 0
PlainIsReadable = (p : Program) (x : Checkpoint) → IsPlain p x → IsReadable p x
