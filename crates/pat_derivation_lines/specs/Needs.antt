-- The types of variables, read one after another.
use Rattle.std.specs.Prelude.{◌≡◌, ℕ, ◌-◌, List, ◌∷◌, ◌++◌, [], length, slice_get, Option, Some, None, option_map, Result, Ok, Err}
use Rattle.std.specs.Borrow.{Bor}
use Rattle.pat_semantics_spec.specs.Programs.{Program}
use Rattle.pat_type_system_spec.specs.Types.{MailboxType}
use Rattle.pat_derivation_text_spec.specs.LineReading.{read_used}
use Rattle.pat_derivation_lines.specs.declared.patterns.unread.Unread.{Unread}
use Rattle.pat_derivation_lines.specs.declared.patterns.unread.Unread.TheVariants.{NotSpelled, NoMemory}

-- variables with their types
abbrev pub Needs : Type 0
Needs = List (ℕ × MailboxType)

-- a variable and its type, from the text of that
abbrev pub typed : Program → Option (ℕ × Bor (List ℕ)) → Option (ℕ × MailboxType)
typed p None = None
typed p (Some r) = option_map (λ a. (r.0, a)) (read_used p r.1.now)

-- the text is that of the last one's type, if there is one
abbrev pub IsLast : Program → Needs → List ℕ → Type 0
IsLast p needs text = (n : ℕ × MailboxType) → slice_get needs (length needs - 1) ≡ Some n → read_used p text ≡ Some n.1

-- one more, with the text of its type, or there is none, or memory ran out
abbrev pub Adds : Program → Option (ℕ × MailboxType) → Needs → Needs → Result (Bor (List ℕ)) Unread → Type 0
Adds p o old new (Ok text) = (n : ℕ × MailboxType) × (o ≡ Some n) × (new ≡ old ++ n ∷ []) × (read_used p text.now ≡ Some n.1)
Adds p o old new (Err NotSpelled) = o ≡ None
Adds p o old new (Err NoMemory) = Unit {0}
