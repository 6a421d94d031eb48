-- Patterns laid out flat: a list of symbols that name one another by number.
use Rattle.std.specs.Prelude.{◌≡◌, ℕ, ◌<◌, List, Option, Some, None, slice_get, length}
use Rattle.pat_words_spec.specs.Words.{Word, no_word, one, plus}
use Rattle.pat_words_spec.specs.Patterns.{Pat, Zero, One, Tag, Sum, Prod, Star, Var}
use Rattle.pat_words_spec.specs.Tags.{HasTagsBelow}
use Rattle.pat_words_spec.specs.Languages.{MemberOf}
use Rattle.pat_inclusion_spec.specs.bounds.Trees.{Bound, EmptyTree, TagTree, LeftTree, RightTree, BothTree, StarEndTree, StarMoreTree, LowerTree}

-- a symbol: the head of a pattern, its parts being named by number; a variable with a lower bound, or one with given words
pub data Symbol : Type 0 where
  NoSymbol : Symbol
  OneSymbol : Symbol
  TagSymbol : (tag : ℕ) → Symbol
  SumSymbol : (left right : ℕ) → Symbol
  ProdSymbol : (first second : ℕ) → Symbol
  StarSymbol : (part : ℕ) → Symbol
  LowerSymbol : (variable : ℕ) → Symbol
  GivenSymbol : (variable : ℕ) → Symbol

-- symbols, and for each variable the number of the symbol of its lower bound
pub record Flat : Type 0 where
  pub symbols : List Symbol
  pub roots : List ℕ

abbrev pub symbol_in : Option Symbol → Symbol
symbol_in None = NoSymbol
symbol_in (Some y) = y

-- the symbol with this number
abbrev pub symbol_at : Flat → ℕ → Symbol
symbol_at f s = symbol_in (slice_get f.symbols s)

abbrev pub root_in : ℕ → Option ℕ → ℕ
root_in past None = past
root_in past (Some s) = s

-- the number of the symbol of variable k's lower bound; past the end where there is none
abbrev pub root_at : Flat → ℕ → ℕ
root_at f k = root_in (length f.symbols) (slice_get f.roots k)

-- the symbol with number s stands for the pattern, where a variable stands as the function says
abbrev pub Stands : List Symbol → (ℕ → Symbol) → Pat → ℕ → Type 0
Stands symbols var Zero s = slice_get symbols s ≡ Some NoSymbol
Stands symbols var One s = slice_get symbols s ≡ Some OneSymbol
Stands symbols var (Tag m) s = slice_get symbols s ≡ Some (TagSymbol m)
Stands symbols var (Sum e f) s =
    (a b : ℕ) × Stands symbols var e a × Stands symbols var f b × (slice_get symbols s ≡ Some (SumSymbol a b))
Stands symbols var (Prod e f) s =
    (a b : ℕ) × Stands symbols var e a × Stands symbols var f b × (slice_get symbols s ≡ Some (ProdSymbol a b))
Stands symbols var (Star e) s = (a : ℕ) × Stands symbols var e a × (slice_get symbols s ≡ Some (StarSymbol a))
Stands symbols var (Var k) s = slice_get symbols s ≡ Some (var k)

-- the root stands for the lower bound, or there is none and the bound is 0
abbrev pub RootStands : List Symbol → Pat → Option ℕ → Type 0
RootStands symbols e None = e ≡ Zero
RootStands symbols e (Some s) = Stands symbols LowerSymbol e s

-- each root stands for its variable's lower bound
abbrev pub IsFlatOf : (ℕ → Pat) → Flat → Type 0
IsFlatOf lower f = (k : ℕ) → RootStands f.symbols (lower k) (slice_get f.roots k)

-- each tag of a symbol is below n
abbrev pub TagsAreBelow : ℕ → Flat → Type 0
TagsAreBelow n f = (s m : ℕ) → symbol_at f s ≡ TagSymbol m → m < n

-- each given word has tags below n alone
abbrev pub GivenAreBelow : ℕ → (ℕ → List Word) → Type 0
GivenAreBelow n given = (k : ℕ) (w : Word) → MemberOf (given k) w → HasTagsBelow n w

-- the tree shows the word for the symbol
abbrev pub ShowsAt : Flat → (ℕ → List Word) → Bound → Symbol → Word → Type 0
ShowsAt f given EmptyTree OneSymbol w = w ≡ no_word
ShowsAt f given EmptyTree (GivenSymbol k) w = MemberOf (given k) w
ShowsAt f given TagTree (TagSymbol m) w = w ≡ one m
ShowsAt f given (LeftTree b) (SumSymbol s t) w = ShowsAt f given b (symbol_at f s) w
ShowsAt f given (RightTree b) (SumSymbol s t) w = ShowsAt f given b (symbol_at f t) w
ShowsAt f given (BothTree a b) (ProdSymbol s t) w =
    (u v : Word) × ShowsAt f given a (symbol_at f s) u × ShowsAt f given b (symbol_at f t) v × (w ≡ plus u v)
ShowsAt f given StarEndTree (StarSymbol s) w = w ≡ no_word
ShowsAt f given (StarMoreTree a b) (StarSymbol s) w =
    (u v : Word)
    × ShowsAt f given a (symbol_at f s) u
    × ShowsAt f given b (StarSymbol s) v
    × (u ≡ no_word → ⊥)
    × (w ≡ plus u v)
ShowsAt f given (LowerTree b) (LowerSymbol k) w = ShowsAt f given b (symbol_at f (root_at f k)) w
ShowsAt f given _ _ w = ⊥
