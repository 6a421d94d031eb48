-- The canonical text as bytes.
use Rattle.std.specs.Prelude.{ℕ, List, [], ◌∷◌, ◌++◌, ◌==◌, ◌||◌, if◌then◌else◌}
use Rattle.std.specs.Fmt.{signed_decimal}
use Rattle.pat_lexer_spec.specs.Words.{word_bytes}
use Rattle.pat_lexer_spec.specs.Marks.{mark_bytes}
use Rattle.pat_lexer_spec.specs.Tokens.{Token, Name, Integer, Str, Word, Mark}
use Rattle.pat_parser_spec.specs.Trees.{Tree}
use Rattle.pat_print_spec.specs.Canonical.{Tok, Blank, Line, Pieces, canonical}

-- between quotes: a quote and a backslash stand behind a backslash
abbrev pub quoted : List ℕ → List ℕ
quoted [] = []
quoted (b ∷ bs) = if b == 34 || b == 92 then 92 ∷ b ∷ quoted bs else b ∷ quoted bs

-- the bytes of a token
abbrev pub token_bytes : Token → List ℕ
token_bytes (Name x) = x
token_bytes (Integer n) = signed_decimal n
token_bytes (Str s) = 34 ∷ (quoted s ++ 34 ∷ [])
token_bytes (Word w) = word_bytes w
token_bytes (Mark m) = mark_bytes m

-- the bytes of pieces
abbrev pub text_of : Pieces → List ℕ
text_of [] = []
text_of (Tok c ∷ r) = token_bytes c ++ text_of r
text_of (Blank ∷ r) = 32 ∷ text_of r
text_of (Line ∷ r) = 10 ∷ text_of r

-- the canonical text of a tree
abbrev pub canonical_text : Tree → List ℕ
canonical_text ds = text_of (canonical ds)
