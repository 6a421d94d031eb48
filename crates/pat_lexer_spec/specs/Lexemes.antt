-- What may stand at a place of a text: a blank, a comment, a token, or an integer too wide to be one.
use Rattle.std.specs.Prelude.{◌≡◌, ◌≢◌, ℕ, ◌≤◌, ◌<◌, ◌==◌, List, [], ◌∷◌, ◌++◌, length, pos, true, IsUtf8}
use Rattle.pat_lexer_spec.specs.Words.{Reserved, word_bytes}
use Rattle.pat_lexer_spec.specs.Marks.{Mark as MarkKind, mark_bytes, Equals, Minus}
use Rattle.pat_lexer_spec.specs.Tokens.{Token, Name, Integer, Str, Word, Mark}
use Rattle.pat_lexer_spec.specs.Characters.{is_digit, is_blank, is_in_line, Each, FrontFails, number_after, IsNameText, Quotes}

-- what may stand at a place
pub data Lexeme : Type 0 where
  Blank : Lexeme
  Comment : Lexeme
  Whole : (token : Token) → Lexeme
  TooWide : Lexeme

-- the greatest integer
abbrev pub greatest : ℕ
greatest = 9223372036854775807

-- a whole run of digits: some, and no digit follows
abbrev pub IsRun : List ℕ → List ℕ → Type 0
IsRun own rest = (own ≢ []) × Each is_digit own × FrontFails is_digit rest

-- bytes spell a token, where these follow
abbrev pub Spells : Token → List ℕ → List ℕ → Type 0
Spells (Name bytes) own rest = (bytes ≡ own) × IsNameText own × ((w : Reserved) → own ≢ word_bytes w)
Spells (Integer n) own rest = IsRun own rest × (number_after 0 own ≤ greatest) × (n ≡ pos (number_after 0 own))
Spells (Str bytes) own rest = (raw : List ℕ) × (own ≡ 34 ∷ (raw ++ 34 ∷ [])) × IsUtf8 raw × Quotes raw bytes
Spells (Word w) own rest = own ≡ word_bytes w
Spells (Mark m) own rest = own ≡ mark_bytes m

-- bytes fit as a lexeme, where these follow: a comment goes up to the next newline or the end
abbrev pub Fits : Lexeme → List ℕ → List ℕ → Type 0
Fits Blank own rest = (b : ℕ) × (own ≡ b ∷ []) × (is_blank b ≡ true)
Fits Comment own rest = (body : List ℕ) × (own ≡ 47 ∷ 47 ∷ body) × IsUtf8 body × Each is_in_line body × FrontFails is_in_line rest
Fits (Whole t) own rest = Spells t own rest
Fits TooWide own rest = IsRun own rest × (greatest < number_after 0 own)

-- bytes that follow a mark and don't make it a longer one
abbrev pub NoLonger : MarkKind → List ℕ → Type 0
NoLonger Equals rest = FrontFails (λ b. b == 61) rest
NoLonger Minus rest = FrontFails (λ b. b == 62) rest
NoLonger _ rest = Unit {0}

-- a text begins with the lexeme in these bytes, the longest that fits at its front
pub record Begins (lexeme : Lexeme) (own rest : List ℕ) : Type 0 where
  pub fits : Fits lexeme own rest
  pub longest : (other : Lexeme) (bytes more : List ℕ) → Fits other bytes more → bytes ++ more ≡ own ++ rest → length bytes ≤ length own

-- no lexeme fits at the front of the text
abbrev pub NothingFits : List ℕ → Type 0
NothingFits text = (lexeme : Lexeme) (own rest : List ℕ) → Fits lexeme own rest → own ++ rest ≡ text → ⊥
