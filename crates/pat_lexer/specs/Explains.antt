-- What an error says of a text.
use Rattle.std.specs.Prelude.{ℕ, List}
use Rattle.pat_lexer_spec.specs.Divisions.{IsRefused, BadToken as BadTokenAt, NumberTooWide as NumberTooWideAt}
use Rattle.pat_lexer.specs.declared.error.LexError.{LexError}
use Rattle.pat_lexer.specs.declared.error.LexError.TheVariants.{BadToken, NumberTooWide, NoMemory}

-- the text is refused so; want of memory says nothing
abbrev pub Explains : List ℕ → LexError → Type 0
Explains text (BadToken o) = IsRefused text (BadTokenAt o)
Explains text (NumberTooWide o) = IsRefused text (NumberTooWideAt o)
Explains text NoMemory = Unit {0}
