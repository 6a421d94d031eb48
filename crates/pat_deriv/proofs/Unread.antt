-- Where the first line that isn't read begins.
use Rattle.std.proofs.Common.{◌≡◌, ℕ, ◌+◌, ◌-◌, ◌<◌, List, [], ◌∷◌, length, sym, subst, arith}
use Rattle.std.specs.Prelude.{Option, Some, None}
use Rattle.pat_semantics_spec.specs.Programs.{Program}
use Rattle.pat_derivation_spec.specs.Derivations.{Derivation}
use Rattle.pat_texts_spec.specs.Joined.{cut}
use Rattle.pat_derivation_text_spec.specs.LineReading.{with_line}
use Rattle.pat_derivation_text_spec.specs.Reading.{ReadsTo, NoLine, Unread, no_line}

unread_at : (p : Program) (text : List ℕ) (d : Derivation) (rest : List ℕ) → ReadsTo p text d rest → 0 < length rest → length rest < length text + 1 → NoLine p d rest (cut 10 rest) → Unread p text (length text - length rest)
unread_at p text d [] r some l h = absurd (omega arith)
unread_at p text d (b ∷ bs) r some l h = no_line r (omega (arith, l)) h

-- a line that isn't read
pub unread_line : (p : Program) (text : List ℕ) (d : Derivation) (rest line more : List ℕ) → ReadsTo p text d rest → 0 < length rest → length rest < length text + 1 → cut 10 rest ≡ Some (line, more) → with_line p d line ≡ None → Unread p text (length text - length rest)
unread_line p text d rest line more r some l c h = unread_at p text d rest r some l (subst (NoLine p d rest) (sym c) h)

-- no line
pub unread_end : (p : Program) (text : List ℕ) (d : Derivation) (rest : List ℕ) → ReadsTo p text d rest → 0 < length rest → length rest < length text + 1 → cut 10 rest ≡ None → Unread p text (length text - length rest)
unread_end p text d rest r some l c = unread_at p text d rest r some l (subst (NoLine p d rest) (sym c) tt)
