-- Where the first line that isn't read begins.
use Rattle.std.proofs.Common.{◌≡◌, ℕ, ◌+◌, ◌-◌, ◌<◌, List, [], ◌∷◌, length, sym, subst, arith}
use Rattle.std.specs.Prelude.{Some, None}
use Rattle.pat_semantics_spec.specs.Programs.{Program}
use Rattle.pat_texts_spec.specs.Joined.{cut}
use Rattle.pat_checkpoint_spec.specs.text.Lines.{Lines}
use Rattle.pat_checkpoint_spec.specs.text.CheckpointText.{marker}
use Rattle.pat_checkpoint_spec.specs.text.LineReading.{with_line}
use Rattle.pat_checkpoint_spec.specs.text.Reading.{ReadsTo, NoNext, NoLine, Unread, no_next, no_line}

-- no next numbers
pub unread_next : (p : Program) (text body : List ℕ) → cut 10 text ≡ Some (marker, body) → length body < length text → NoNext (cut 10 body) → Unread p text (length text - length body)
unread_next p text body first l h = no_next first (omega (arith, l)) h

unread_at : (p : Program) (text : List ℕ) (x : Lines) (rest : List ℕ) → ReadsTo p text x rest → 0 < length rest → length rest < length text + 1 → NoLine p x (cut 10 rest) → Unread p text (length text - length rest)
unread_at p text x [] r some l h = absurd (omega (arith, some))
unread_at p text x (b ∷ bs) r some l h = no_line r (omega (arith, l)) h

-- a line that isn't read
pub unread_line : (p : Program) (text : List ℕ) (x : Lines) (rest line more : List ℕ) → ReadsTo p text x rest → 0 < length rest → length rest < length text + 1 → cut 10 rest ≡ Some (line, more) → with_line p x line ≡ None → Unread p text (length text - length rest)
unread_line p text x rest line more r some l c h = unread_at p text x rest r some l (subst (NoLine p x) (sym c) h)

-- no line
pub unread_end : (p : Program) (text : List ℕ) (x : Lines) (rest : List ℕ) → ReadsTo p text x rest → 0 < length rest → length rest < length text + 1 → cut 10 rest ≡ None → Unread p text (length text - length rest)
unread_end p text x rest r some l c = unread_at p text x rest r some l (subst (NoLine p x) (sym c) tt)
