-- How a text divides into tokens, blanks and comments, and where it is refused.
use Rattle.std.specs.Prelude.{◌≡◌, ◌≢◌, ℕ, ◌+◌, ◌⊎◌, List, [], ◌∷◌, ◌++◌, length}
use Rattle.pat_lexer_spec.specs.Tokens.{Token, Spanned}
use Rattle.pat_lexer_spec.specs.Lexemes.{Lexeme, Blank, Comment, Whole, TooWide, Fits, Begins, NothingFits}

-- From offset at on, text divides up to offset to into pieces with these tokens, each piece the longest that fits,
-- and rest is what is left.
pub data Reaches : ℕ → List ℕ → List Spanned → ℕ → List ℕ → Type 0 where
  here : {at : ℕ} {text : List ℕ} → Reaches at text [] at text
  over : {at to : ℕ} {text own after rest : List ℕ} {lexeme : Lexeme} {tokens : List Spanned} → (lexeme ≡ Blank) ⊎ (lexeme ≡ Comment) → Begins lexeme own after → own ++ after ≡ text → Reaches (at + length own) after tokens to rest → Reaches at text tokens to rest
  token : {at to : ℕ} {text own after rest : List ℕ} {t : Token} {tokens : List Spanned} → Begins (Whole t) own after → own ++ after ≡ text → Reaches (at + length own) after tokens to rest → Reaches at text (record { token = t; from = at; to = at + length own } ∷ tokens) to rest

-- the whole text divides into pieces with these tokens
abbrev pub Divides : List ℕ → List Spanned → Type 0
Divides text tokens = (to : ℕ) × Reaches 0 text tokens to []

-- offset o is reached, and what is left there
abbrev pub IsReached : List ℕ → ℕ → List ℕ → Type 0
IsReached text o rest = (tokens : List Spanned) × Reaches 0 text tokens o rest

-- why a text doesn't divide: at an offset nothing fits, or an integer is too wide
pub data Refusal : Type 0 where
  BadToken : (offset : ℕ) → Refusal
  NumberTooWide : (offset : ℕ) → Refusal

-- the text is refused so
abbrev pub IsRefused : List ℕ → Refusal → Type 0
IsRefused text (BadToken o) = (rest : List ℕ) × IsReached text o rest × (rest ≢ []) × NothingFits rest
IsRefused text (NumberTooWide o) = (rest own after : List ℕ) × IsReached text o rest × (own ++ after ≡ rest) × Fits TooWide own after

-- a text divides in at most one way, is refused in at most one way, and isn't both divided and refused
pub record OneDivision (text : List ℕ) : Type 0 where
  pub one_division : (tokens others : List Spanned) → Divides text tokens → Divides text others → tokens ≡ others
  pub one_refusal : (refusal other : Refusal) → IsRefused text refusal → IsRefused text other → refusal ≡ other
  pub not_both : (tokens : List Spanned) (refusal : Refusal) → Divides text tokens → IsRefused text refusal → ⊥
