-- Tokens, and where they stand in a text.
use Rattle.std.specs.Prelude.{ℕ, ℤ, List}
use Rattle.pat_lexer_spec.specs.Words.{Reserved}
use Rattle.pat_lexer_spec.specs.Marks.{Mark as MarkKind}

-- a token: a name by its bytes, an integer by its value, a string by the bytes that it stands for, a reserved word, a mark
pub data Token : Type 0 where
  Name : (bytes : List ℕ) → Token
  Integer : (value : ℤ) → Token
  Str : (bytes : List ℕ) → Token
  Word : (word : Reserved) → Token
  Mark : (mark : MarkKind) → Token

-- a token with its span: the offset of its first byte, and the offset after its last
pub record Spanned : Type 0 where
  pub token : Token
  pub from : ℕ
  pub to : ℕ
