-- What was read of a source, and what it divides into.
use Rattle.std.specs.Prelude.{◌≡◌, ◌≢◌, ◌<◌, ◌≤◌, ◌++◌, ℕ, suc, List, length, map, Result}
use Rattle.std.specs.declared.result.Result.TheVariants.{Ok, Err}
use Rattle.std.specs.declared.option.Option.{Option}
use Rattle.std.specs.Io.KnownBytes.{Consumes, IsAtEnd}
use Rattle.pat_ports.specs.Causes.{Raised}
use Rattle.pat_lexer_spec.specs.Divisions.{Divides}
use Rattle.pat_syntax.specs.Views.{token_view}
use Rattle.pat_lexer.specs.Lexed.{Lexed, HasRead}
use Rattle.pat_lexer.specs.Explains.{Explains}
use Rattle.pat_lexer.specs.declared.error.LexError.TheVariants.{NoMemory}
use Rattle.pat_input.specs.declared.reading.Input.{Input}
use Rattle.pat_input.specs.declared.reading.InputError.{InputError}
use Rattle.pat_input.specs.declared.reading.InputError.TheVariants.{Failed, NoMemory as NoMemoryLeft}
use Rattle.pat_input.specs.declared.reading.Input.TheVariants.{TooLong, Refused, Tokens}

-- the most bytes of a program
abbrev pub limit : ℕ
limit = 1048576

-- the most bytes of a program with a text behind it
abbrev pub whole_limit : ℕ
whole_limit = 67108864

-- the bytes are what the source gave: all that it had, or one byte more than it may have
pub record IsInputWithin (most : ℕ) (had left : Option (List ℕ)) (bytes : List ℕ) : Type 0 where
  pub taken : Consumes had left bytes
  pub within : length bytes ≤ suc most
  pub all : length bytes ≤ most → IsAtEnd left

-- the input of a command that reads a program
abbrev pub IsInput : Option (List ℕ) → Option (List ℕ) → List ℕ → Type 0
IsInput had left bytes = IsInputWithin limit had left bytes

-- the bytes are too many, are refused, or divide into the tokens
abbrev pub IsRead : List ℕ → Input → Type 0
IsRead bytes TooLong = limit < length bytes
IsRead bytes (Refused e) = (length bytes ≤ limit) × (e ≢ NoMemory) × Explains bytes e
IsRead bytes (Tokens ts end) = (length bytes ≤ limit) × Divides bytes (map token_view ts.items) × (end ≡ length bytes)

-- the lexer has read the piece besides
abbrev pub Fed : Lexed → Lexed → List ℕ → Type 0
Fed old new piece = (bytes : List ℕ) → HasRead bytes old → HasRead (bytes ++ piece) new

-- the source's count of faults after a reading: one more where it failed, and else what it was
abbrev pub FaultsAfter : {A : Type 0} → ℕ → ℕ → Result A InputError → Type 0
FaultsAfter before now (Err Failed) = Raised before now
FaultsAfter before now (Err NoMemoryLeft) = now ≡ before
FaultsAfter before now (Ok x) = now ≡ before
