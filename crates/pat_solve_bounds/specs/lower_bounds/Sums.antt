-- Sums of several patterns.
use Rattle.std.specs.Prelude.{List, [], ◌∷◌, Option}
use Rattle.pat_words_spec.specs.Patterns.{Pat}
use Rattle.pat_solve_bounded.specs.Limits.{within, sum_within}

-- what is made so far, which may be too large, and then each of the patterns
abbrev pub sum_all : Option Pat → List Pat → Option Pat
sum_all made [] = made
sum_all made (e ∷ es) = sum_all (sum_within made (within e)) es
