-- How patterns are laid out: parts before the whole, so that a pattern's own symbol is the last.
use Rattle.std.specs.Prelude.{ℕ, ◌-◌, List, [], ◌∷◌, ◌++◌, length}
use Rattle.pat_words_spec.specs.Patterns.{Pat, Zero, One, Tag, Sum, Prod, Star, Var}
use Rattle.pat_inclusion_spec.specs.bounds.Symbols.{Symbol, NoSymbol, OneSymbol, TagSymbol, SumSymbol, ProdSymbol, StarSymbol, LowerSymbol, GivenSymbol, Flat}

-- the number of the last symbol
abbrev pub last_of : List Symbol → ℕ
last_of made = length made - 1

-- the symbols made so far, and one more
abbrev pub and_one : List Symbol → Symbol → List Symbol
and_one made y = made ++ y ∷ []

-- the symbols made so far, and those of the pattern
abbrev pub laid : (ℕ → Symbol) → List Symbol → Pat → List Symbol
laid var made Zero = and_one made NoSymbol
laid var made One = and_one made OneSymbol
laid var made (Tag m) = and_one made (TagSymbol m)
laid var made (Sum e f) =
    let first = laid var made e in
    let second = laid var first f in
    and_one second (SumSymbol (last_of first) (last_of second))
laid var made (Prod e f) =
    let first = laid var made e in
    let second = laid var first f in
    and_one second (ProdSymbol (last_of first) (last_of second))
laid var made (Star e) = let part = laid var made e in and_one part (StarSymbol (last_of part))
laid var made (Var k) = and_one made (var k)

-- the symbols made so far, and those of each pattern of a system
abbrev pub laid_all : List Symbol → List Pat → List Symbol
laid_all made [] = made
laid_all made (e ∷ es) = laid_all (laid LowerSymbol made e) es

-- the number of each pattern's own symbol
abbrev pub roots_all : List Symbol → List Pat → List ℕ
roots_all made [] = []
roots_all made (e ∷ es) = last_of (laid LowerSymbol made e) ∷ roots_all (laid LowerSymbol made e) es

-- a system and then a pattern over it
abbrev pub flat_of : List Pat → Pat → Flat
flat_of system left = record { symbols = laid LowerSymbol (laid_all [] system) left; roots = roots_all [] system }

-- a pattern whose variables have given words
abbrev pub flat_given : Pat → Flat
flat_given e = record { symbols = laid GivenSymbol [] e; roots = [] }
