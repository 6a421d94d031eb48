-- What stands on top of a stack gives way to what is made of it.
use Rattle.std.specs.Prelude.{List, [], ◌∷◌, Option}
use Rattle.pat_words_spec.specs.Patterns.{Pat}

-- the two on top give way to one that is made of them, the lower one first; where there are fewer, none is left
abbrev pub joined : (Option Pat → Option Pat → Option Pat) → List (Option Pat) → List (Option Pat)
joined make (f ∷ e ∷ rest) = make e f ∷ rest
joined make _ = []

-- the one on top gives way to one that is made of it
abbrev pub joined_one : (Option Pat → Option Pat) → List (Option Pat) → List (Option Pat)
joined_one make (e ∷ rest) = make e ∷ rest
joined_one make _ = []
