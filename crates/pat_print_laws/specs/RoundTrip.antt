-- The round trip of the canonical text, on its tokens.
use Rattle.std.specs.Prelude.{◌≡◌, List, map}
use Rattle.pat_lexer_spec.specs.Tokens.{Spanned, Token}
use Rattle.pat_parser_spec.specs.Trees.{Tree}
use Rattle.pat_parser_spec.specs.Items.{Limits}
use Rattle.pat_parser_spec.specs.Claims.{SpellsTree}
use Rattle.pat_print_spec.specs.Bare.{bare}

-- the tokens without their places
abbrev pub kinds : List Spanned → List Token
kinds ts = map (λ t. t.token) ts

-- the tokens of the canonical text of a tree that some tokens spell, wherever they stand, spell the same tree, places aside
abbrev pub SpelledAgain : Limits → Tree → List Spanned → Type 0
SpelledAgain lim m us = (n : Tree) × SpellsTree lim us n × (bare m ≡ bare n)
