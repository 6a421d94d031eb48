-- The laws of the texts of derivations.
use Rattle.std.specs.Prelude.{◌≡◌, ◌≤◌, ℕ, true, List, ◌++◌, length}
use Rattle.pat_semantics_spec.specs.Programs.{Program}
use Rattle.pat_resolver_spec.specs.Places.{Places}
use Rattle.pat_resolver_spec.specs.Resolved.{IsResolved}
use Rattle.pat_derivation_spec.specs.Derivations.{Derivation}
use Rattle.pat_derivation_text_spec.specs.DerivationText.{derivation_text}
use Rattle.pat_derivation_text_spec.specs.Reading.{ReadsTo, ReadsAs, Unread}
use Rattle.pat_derivation_text_laws.specs.Readable.{can_be_read}

-- what a text is read as has this text
abbrev pub ReadIsText : Type 0
ReadIsText = (p : Program) (text : List ℕ) (d : Derivation) → ReadsAs p text d → text ≡ derivation_text p d

-- a text is read as one derivation at most
abbrev pub ReadingIsOne : Type 0
ReadingIsOne = (p : Program) (text : List ℕ) (d e : Derivation) → ReadsAs p text d → ReadsAs p text e → d ≡ e

-- the text of a derivation that a reader takes is read as it
abbrev pub TextIsRead : Type 0
TextIsRead = (p : Program) (q : Places) → IsResolved p q → (d : Derivation) → can_be_read p d ≡ true → ReadsAs p (derivation_text p d) d

-- and what is read of a text, up to any line, is one that a reader takes
abbrev pub ReadIsReadable : Type 0
ReadIsReadable = (p : Program) (q : Places) → IsResolved p q → (text : List ℕ) (d : Derivation) (rest : List ℕ) → ReadsTo p text d rest → can_be_read p d ≡ true

-- no two of them have one text
abbrev pub TextIsOne : Type 0
TextIsOne =
    (p : Program) (q : Places) → IsResolved p q → (d e : Derivation) → can_be_read p d ≡ true → can_be_read p e ≡ true → derivation_text p d ≡ derivation_text p e → d ≡ e

-- and where the first line that isn't read begins, the text goes on as none of theirs does: each that it begins with ends there or before
abbrev pub UnreadIsFirst : Type 0
UnreadIsFirst =
    (p : Program) (q : Places) → IsResolved p q → (text : List ℕ) (offset : ℕ) → Unread p text offset → (d : Derivation) (rest : List ℕ) → can_be_read p d ≡ true → text ≡ derivation_text p d ++ rest → length (derivation_text p d) ≤ offset
