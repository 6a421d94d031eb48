-- The token that the bytes of a name spell.
use Rattle.std.specs.Prelude.{◌≡◌, ◌≢◌, ℕ, List}
use Rattle.pat_lexer_spec.specs.Words.{Reserved, word_bytes}
use Rattle.pat_lexer_spec.specs.Tokens.{Token, Name, Word}

-- the token of a name or a word
pub data IsNameToken : List ℕ → Token → Type 0 where
  name : {own : List ℕ} → ((w : Reserved) → own ≢ word_bytes w) → IsNameToken own (Name own)
  word : {own : List ℕ} {w : Reserved} → own ≡ word_bytes w → IsNameToken own (Word w)
