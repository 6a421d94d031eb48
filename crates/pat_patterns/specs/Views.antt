-- Patterns of shared parts, seen as patterns of the definitions.
use Rattle.std.specs.Prelude.{ℕ, List, [], ◌∷◌, map, slice_index_or}
use Rattle.pat_words_spec.specs.Patterns.{Pat, Zero, One, Tag, Sum, Prod, Star, Var}
use Rattle.pat_patterns.specs.declared.pattern.Pattern.{Pattern}
use Rattle.pat_patterns.specs.declared.pattern.Pattern.TheVariants.{Zero as CodeZero, One as CodeOne, Tag as CodeTag, Sum' as CodeSum, Prod' as CodeProd, Star' as CodeStar, Var as CodeVar}

-- the pattern without who shares it
abbrev pub pattern_view : Pattern → Pat
pattern_view CodeZero = Zero
pattern_view CodeOne = One
pattern_view (CodeTag m) = Tag m
pattern_view (CodeSum p e q f) = Sum (pattern_view e) (pattern_view f)
pattern_view (CodeProd p e q f) = Prod (pattern_view e) (pattern_view f)
pattern_view (CodeStar p e) = Star (pattern_view e)
pattern_view (CodeVar k) = Var k

-- the patterns of a list without who shares them
abbrev pub patterns_view : List Pattern → List Pat
patterns_view ps = map pattern_view ps

-- the value at the place of a variable
abbrev pub value_at : List Pat → ℕ → Pat
value_at values k = slice_index_or values k Zero

-- the two patterns on top give way to one that is made of them, the lower one first
abbrev pub joined : (Pat → Pat → Pat) → List Pat → List Pat
joined make (f ∷ e ∷ rest) = make e f ∷ rest
joined make _ = []

-- the pattern on top gives way to one that is made of it
abbrev pub joined_one : (Pat → Pat) → List Pat → List Pat
joined_one make (e ∷ rest) = make e ∷ rest
joined_one make _ = []
