-- How what a reader has changes.
use Rattle.std.specs.Prelude.{ℕ, ◌+◌, List, [], ◌∷◌, ◌++◌, length}
use Rattle.pat_lexer_spec.specs.Tokens.{Token}
use Rattle.pat_lexer.specs.declared.unfinished.Unfinished.{Unfinished}
use Rattle.pat_lexer.specs.declared.unfinished.Unfinished.TheVariants.{Nothing}
use Rattle.pat_lexer.specs.Progress.{Progress}

-- the unfinished piece is ended with a token
abbrev pub with_token : Progress → Token → Progress
with_token p t = record p {
  whole = p.whole ++ record { token = t; from = p.start; to = p.position } ∷ [];
  unfinished = Nothing;
  start = p.position;
  held = [];
}

-- a piece is begun with its first bytes
abbrev pub with_piece : Progress → Unfinished → List ℕ → Progress
with_piece p u bytes = record p {
  unfinished = u;
  start = p.position;
  position = p.position + length bytes;
  held = p.held ++ bytes;
}

-- more bytes of the unfinished piece were read and are held
abbrev pub with_held : Progress → List ℕ → Progress
with_held p bytes = record p { position = p.position + length bytes; held = p.held ++ bytes }

-- bytes were read from here on, and nothing more is known of them
abbrev pub with_passed : Progress → ℕ → Progress
with_passed p n = record p { position = p.position + n }
