-- What a function that reads returns, against what the definitions read.
use Rattle.std.specs.Prelude.{◌≡◌, ℕ, List, Option, Some, None, Result, Ok, Err}
use Rattle.std.specs.Borrow.{Bor}
use Rattle.pat_derivation_text_spec.specs.patterns.PatternReading.{Stage}
use Rattle.pat_derivation_lines.specs.declared.patterns.unread.Unread.{Unread}
use Rattle.pat_derivation_lines.specs.declared.patterns.unread.Unread.TheVariants.{NotSpelled, NoMemory}

-- the view of the result is what is read, or nothing is, or memory ran out
abbrev pub Gives : {A B : Type 0} → (A → B) → Option B → Result A Unread → Type 0
Gives view o (Ok x) = o ≡ Some (view x)
Gives view o (Err NotSpelled) = o ≡ None
Gives view o (Err NoMemory) = Unit {0}

-- the same of a function that changes something in place: what it is afterwards is what is read
abbrev pub Leaves : {A B : Type 0} → Option B → B → Result A Unread → Type 0
Leaves o new (Ok x) = o ≡ Some new
Leaves o new (Err NotSpelled) = o ≡ None
Leaves o new (Err NoMemory) = Unit {0}

-- a step: the stage afterwards, and what is left of the text
abbrev pub Steps : Option (Stage × List ℕ) → Stage → Result (Bor (List ℕ)) Unread → Type 0
Steps o new (Ok rest) = o ≡ Some (new, rest.now)
Steps o new (Err NotSpelled) = o ≡ None
Steps o new (Err NoMemory) = Unit {0}
