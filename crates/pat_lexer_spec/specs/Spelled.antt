-- Tokens that bytes spell; so what a name is, and what a string is.
use Rattle.std.specs.Prelude.{ℕ, List}
use Rattle.pat_lexer_spec.specs.Tokens.{Token, Name, Str}
use Rattle.pat_lexer_spec.specs.Lexemes.{Spells}

-- some bytes spell the token, where some bytes follow
abbrev pub IsSpelled : Token → Type 0
IsSpelled c = (own : List ℕ) × (rest : List ℕ) × Spells c own rest

-- the bytes are a name, and no reserved word
abbrev pub IsName : List ℕ → Type 0
IsName x = IsSpelled (Name x)

-- the bytes are those that a string stands for
abbrev pub IsString : List ℕ → Type 0
IsString s = IsSpelled (Str s)
