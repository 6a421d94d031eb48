-- What a reader has that has read a text up to some place.
use Rattle.std.specs.Prelude.{◌≡◌, ◌≢◌, ◌≤◌, ◌+◌, ◌⊎◌, ℕ, List, [], ◌∷◌, ◌++◌, length, IsUtf8}
use Rattle.pat_lexer_spec.specs.Tokens.{Spanned}
use Rattle.pat_lexer_spec.specs.Characters.{is_digit, is_in_line, Each, number_after, IsNameText, Quotes, IsUnfinished}
use Rattle.pat_lexer_spec.specs.Lexemes.{greatest}
use Rattle.pat_lexer_spec.specs.Divisions.{Reaches}
use Rattle.pat_lexer.specs.declared.unfinished.Unfinished.{Unfinished}
use Rattle.pat_lexer.specs.declared.unfinished.Unfinished.TheVariants.{Nothing, Name, Integer, Str, Escape, Equals, Minus, Slash, Comment}

-- what a reader has: the whole tokens, which piece is unfinished, where it begins, how many bytes were read,
-- the bytes held, those of an unfinished character and where it begins, an unfinished integer's value, and the
-- bytes that an unfinished string stands for
pub record Progress : Type 0 where
  pub whole : List Spanned
  pub unfinished : Unfinished
  pub start : ℕ
  pub position : ℕ
  pub held : List ℕ
  pub character : List ℕ
  pub character_start : ℕ
  pub number : ℕ
  pub text : List ℕ

-- the whole characters of the unfinished piece are of its kind, and what is held is as it says
abbrev pub HasKind : Unfinished → Progress → List ℕ → Type 0
HasKind Nothing p opened = (opened ≡ []) × (p.held ≡ p.character) × (p.text ≡ [])
HasKind Name p opened = IsNameText opened × (p.held ≡ opened ++ p.character) × (p.text ≡ [])
HasKind Integer p opened = (opened ≢ []) × Each is_digit opened × (p.number ≡ number_after 0 opened) × (p.number ≤ greatest) × (p.held ≡ opened) × (p.character ≡ []) × (p.text ≡ [])
HasKind Str p opened = (raw : List ℕ) × (opened ≡ 34 ∷ raw) × IsUtf8 raw × Quotes raw p.text × (p.held ≡ opened ++ p.character)
HasKind Escape p opened = (raw : List ℕ) × (opened ≡ 34 ∷ (raw ++ 92 ∷ [])) × IsUtf8 raw × Quotes raw p.text × (p.held ≡ opened) × (p.character ≡ [])
HasKind Equals p opened = (opened ≡ 61 ∷ []) × (p.held ≡ opened) × (p.character ≡ []) × (p.text ≡ [])
HasKind Minus p opened = (opened ≡ 45 ∷ []) × (p.held ≡ opened) × (p.character ≡ []) × (p.text ≡ [])
HasKind Slash p opened = (opened ≡ 47 ∷ []) × (p.held ≡ opened) × (p.character ≡ []) × (p.text ≡ [])
HasKind Comment p opened = (body : List ℕ) × (opened ≡ 47 ∷ 47 ∷ body) × IsUtf8 body × Each is_in_line body × (p.held ≡ p.character) × (p.text ≡ [])

-- The text was read but for rest: the whole tokens lead to where the unfinished piece begins, and from there
-- stand its whole characters, the unfinished character, and rest.
pub record Stands (p : Progress) (text rest : List ℕ) : Type 0 where
  pub opened : List ℕ
  pub reaches : Reaches 0 text p.whole p.start (opened ++ (p.character ++ rest))
  pub position : p.position ≡ p.start + length opened + length p.character
  pub kind : HasKind p.unfinished p opened
  pub character : (p.character ≡ []) ⊎ (IsUnfinished p.character × (p.character_start ≡ p.start + length opened))
