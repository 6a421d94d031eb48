-- What the parser answers, against what the definitions say.
use Rattle.std.specs.Prelude.{◌≡◌, ℕ, List, Result, Ok, Err}
use Rattle.pat_lexer_spec.specs.Tokens.{Spanned}
use Rattle.pat_parser_spec.specs.Claims.{IsUnexpected, IsTooDeep}
use Rattle.pat_parser_spec.specs.Machine as m
use Rattle.pat_parser_phrases.specs.declared.tokens.fault.ParseError.{ParseError}
use Rattle.pat_parser_phrases.specs.declared.tokens.fault.ParseError.TheVariants as errors
use Rattle.pat_parser_phrases.specs.tokens.Answers.{limits, FailsAt}

-- what is answered is what the definition says, an error with its offset
abbrev pub GivesAt : {X Y : Type 0} → (X → Y) → Result X ParseError → Result Y (m.Fault × ℕ) → Type 0
GivesAt view (Ok x) read = read ≡ Ok (view x)
GivesAt view (Err e) read = FailsAt e read

-- what an error says of the tokens of a text that ends at the offset; want of memory says nothing
abbrev pub Explains : ℕ → List Spanned → ParseError → Type 0
Explains end ts errors.NoMemory = Unit {0}
Explains end ts (errors.Unexpected o) = IsUnexpected limits end ts o
Explains end ts (errors.TooDeep o) = IsTooDeep limits ts o
