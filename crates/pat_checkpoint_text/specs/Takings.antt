-- What taking one byte of a string does.
use Rattle.std.specs.Prelude.{◌≡◌, ℕ, Bool, List, ◌∷◌, None, Result, Ok, Err}
use Rattle.pat_texts_spec.specs.Joined.{then_read}
use Rattle.pat_derivation_lines.specs.declared.patterns.unread.Unread.{Unread}
use Rattle.pat_derivation_lines.specs.declared.patterns.unread.Unread.TheVariants.{NotSpelled, NoMemory}
use Rattle.pat_checkpoint_spec.specs.text.ValueReading.{unquoted}

-- what was read, and the others from there on, are what was read before and the others from the byte on; or no byte may stand here
abbrev pub Takes : List ℕ → Bool → ℕ → List ℕ → Result Bool Unread → Type 0
Takes old t b new (Ok e) = (bs : List ℕ) → then_read new (unquoted e bs) ≡ then_read old (unquoted t (b ∷ bs))
Takes old t b new (Err NotSpelled) = (bs : List ℕ) → unquoted t (b ∷ bs) ≡ None
Takes old t b new (Err NoMemory) = Unit {0}
