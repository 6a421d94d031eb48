-- Which lexemes begin with a byte of each kind.
use Rattle.std.proofs.Common.{◌≡◌, ◌⊎◌, inl, inr, ℕ, ℤ, List, refl}
use Rattle.pat_lexer_spec.specs.Words.{Reserved}
use Rattle.pat_lexer_spec.specs.Marks.{Mark as MarkKind}
use Rattle.pat_lexer_spec.specs.Tokens.{Name, Integer, Str, Word, Mark}
use Rattle.pat_lexer_spec.specs.Lexemes.{Lexeme, Blank, Comment, Whole, TooWide}
use Rattle.pat_lexer_laws.proofs.Classes.{class_of, Spaces, Digits, Quoted, Slashes, Marks, Names}

-- a blank
pub only_blank : (lexeme : Lexeme) → class_of lexeme ≡ Spaces → lexeme ≡ Blank
only_blank Blank k = refl
only_blank Comment k = absurd (let no : ⊥ = cc in no)
only_blank TooWide k = absurd (let no : ⊥ = cc in no)
only_blank (Whole (Name x)) k = absurd (let no : ⊥ = cc in no)
only_blank (Whole (Integer x)) k = absurd (let no : ⊥ = cc in no)
only_blank (Whole (Str x)) k = absurd (let no : ⊥ = cc in no)
only_blank (Whole (Word x)) k = absurd (let no : ⊥ = cc in no)
only_blank (Whole (Mark x)) k = absurd (let no : ⊥ = cc in no)

-- a comment
pub only_comment : (lexeme : Lexeme) → class_of lexeme ≡ Slashes → lexeme ≡ Comment
only_comment Blank k = absurd (let no : ⊥ = cc in no)
only_comment Comment k = refl
only_comment TooWide k = absurd (let no : ⊥ = cc in no)
only_comment (Whole (Name x)) k = absurd (let no : ⊥ = cc in no)
only_comment (Whole (Integer x)) k = absurd (let no : ⊥ = cc in no)
only_comment (Whole (Str x)) k = absurd (let no : ⊥ = cc in no)
only_comment (Whole (Word x)) k = absurd (let no : ⊥ = cc in no)
only_comment (Whole (Mark x)) k = absurd (let no : ⊥ = cc in no)

-- a string
pub only_string : (lexeme : Lexeme) → class_of lexeme ≡ Quoted → (x : List ℕ) × (lexeme ≡ Whole (Str x))
only_string Blank k = absurd (let no : ⊥ = cc in no)
only_string Comment k = absurd (let no : ⊥ = cc in no)
only_string TooWide k = absurd (let no : ⊥ = cc in no)
only_string (Whole (Name x)) k = absurd (let no : ⊥ = cc in no)
only_string (Whole (Integer x)) k = absurd (let no : ⊥ = cc in no)
only_string (Whole (Str x)) k = (x, refl)
only_string (Whole (Word x)) k = absurd (let no : ⊥ = cc in no)
only_string (Whole (Mark x)) k = absurd (let no : ⊥ = cc in no)

-- a mark
pub only_mark : (lexeme : Lexeme) → class_of lexeme ≡ Marks → (m : MarkKind) × (lexeme ≡ Whole (Mark m))
only_mark Blank k = absurd (let no : ⊥ = cc in no)
only_mark Comment k = absurd (let no : ⊥ = cc in no)
only_mark TooWide k = absurd (let no : ⊥ = cc in no)
only_mark (Whole (Name x)) k = absurd (let no : ⊥ = cc in no)
only_mark (Whole (Integer x)) k = absurd (let no : ⊥ = cc in no)
only_mark (Whole (Str x)) k = absurd (let no : ⊥ = cc in no)
only_mark (Whole (Word x)) k = absurd (let no : ⊥ = cc in no)
only_mark (Whole (Mark x)) k = (x, refl)

-- an integer, or one too wide
pub only_digits : (lexeme : Lexeme) → class_of lexeme ≡ Digits → (lexeme ≡ TooWide) ⊎ ((n : ℤ) × (lexeme ≡ Whole (Integer n)))
only_digits Blank k = absurd (let no : ⊥ = cc in no)
only_digits Comment k = absurd (let no : ⊥ = cc in no)
only_digits TooWide k = inl refl
only_digits (Whole (Name x)) k = absurd (let no : ⊥ = cc in no)
only_digits (Whole (Integer x)) k = inr (x, refl)
only_digits (Whole (Str x)) k = absurd (let no : ⊥ = cc in no)
only_digits (Whole (Word x)) k = absurd (let no : ⊥ = cc in no)
only_digits (Whole (Mark x)) k = absurd (let no : ⊥ = cc in no)

-- a name or a word
pub only_name : (lexeme : Lexeme) → class_of lexeme ≡ Names → ((x : List ℕ) × (lexeme ≡ Whole (Name x))) ⊎ ((w : Reserved) × (lexeme ≡ Whole (Word w)))
only_name Blank k = absurd (let no : ⊥ = cc in no)
only_name Comment k = absurd (let no : ⊥ = cc in no)
only_name TooWide k = absurd (let no : ⊥ = cc in no)
only_name (Whole (Name x)) k = inl (x, refl)
only_name (Whole (Integer x)) k = absurd (let no : ⊥ = cc in no)
only_name (Whole (Str x)) k = absurd (let no : ⊥ = cc in no)
only_name (Whole (Word x)) k = inr (x, refl)
only_name (Whole (Mark x)) k = absurd (let no : ⊥ = cc in no)
