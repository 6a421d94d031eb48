-- What is held of bytes behind which more may come: the end of them that begins with the first piece that isn't yet known to be whole.
use Rattle.std.specs.Prelude.{◌≡◌, ℕ, ◌⊎◌, List, [], ◌∷◌, ◌++◌, length, IsUtf8}
use Rattle.pat_lexer_spec.specs.Tokens.{Spanned, Name, Word}
use Rattle.pat_lexer_spec.specs.Characters.{is_in_line, Each, IsUnfinished}
use Rattle.pat_lexer_spec.specs.Lexemes.{Lexeme, Whole, Begins}
use Rattle.pat_lexer_spec.specs.Divisions.{Reaches}

-- the lexeme is a name, or a word, with which a name might go on
abbrev pub IsNamed : Lexeme → Type 0
IsNamed (Whole (Name x)) = Unit {0}
IsNamed (Whole (Word w)) = Unit {0}
IsNamed _ = ⊥

-- The text begins with the lexeme, whatever comes behind the text. A name isn't known to be whole before an unfinished
-- character, which might go on with it.
pub record IsKnownWhole (lexeme : Lexeme) (own rest : List ℕ) : Type 0 where
  pub begins : (more : List ℕ) → Begins lexeme own (rest ++ more)
  pub sure : IsNamed lexeme → IsUnfinished rest → ⊥

-- no piece at the front of the text is known to be whole
abbrev pub NothingWhole : List ℕ → Type 0
NothingWhole text = (lexeme : Lexeme) (own rest : List ℕ) → own ++ rest ≡ text → IsKnownWhole lexeme own rest → ⊥

-- the text begins with the mark of a comment
abbrev pub IsInComment : List ℕ → Type 0
IsInComment text = (rest : List ℕ) × (text ≡ 47 ∷ 47 ∷ rest)

-- Whole pieces with these tokens lead to what is held, whatever comes behind the bytes, and nothing in it is known to
-- be whole. In a comment, which the next bytes may make longer, it is the bytes of an unfinished character, or nothing.
pub data IsHeld (bytes : List ℕ) (tokens : List Spanned) : List ℕ → Type 0 where
  piece : (front : List ℕ) {held : List ℕ} → bytes ≡ front ++ held → ((more : List ℕ) → Reaches 0 (bytes ++ more) tokens (length front) (held ++ more)) → NothingWhole held → (IsInComment held → ⊥) → IsHeld bytes tokens held
  in_comment : (front body : List ℕ) {held : List ℕ} → bytes ≡ front ++ 47 ∷ 47 ∷ (body ++ held) → ((more : List ℕ) → Reaches 0 (bytes ++ more) tokens (length front) (47 ∷ 47 ∷ (body ++ (held ++ more)))) → IsUtf8 body → Each is_in_line body → (held ≡ []) ⊎ IsUnfinished held → IsHeld bytes tokens held
