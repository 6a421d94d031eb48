-- What a derivative is still to do, and what it makes in the end.
use Rattle.std.specs.Prelude.{ℕ, ◌+◌, ◌*◌, Bool, false, List, [], ◌∷◌, Option, Some, None}
use Rattle.pat_words_spec.specs.Patterns.{Pat, is_zero}
use Rattle.pat_words_spec.specs.Sizes.{size_of}
use Rattle.pat_patterns.specs.Views.{pattern_view}
use Rattle.pat_solve_spec.specs.Assignments.{derivative}
use Rattle.pat_solve_bounded.specs.Limits.{within, sum_within, prod_within, star_within}
use Rattle.pat_solve_bounded.specs.replacing.Stacks.{joined, joined_one}
use Rattle.pat_solve_bounded.specs.declared.replacing.derivatives.Task.{Task}
use Rattle.pat_solve_bounded.specs.declared.replacing.derivatives.Task.TheVariants.{Visit, Sum as SumTask, Product as ProductTask, Star as StarTask}

-- it is 0
abbrev pub is_zero_within : Option Pat → Bool
is_zero_within None = false
is_zero_within (Some e) = is_zero e

-- the derivative of a product of e and f, by the derivatives of both
abbrev pub product_slope : Pat → Pat → Option Pat → Option Pat → Option Pat
product_slope e f e_slope f_slope = sum_within (prod_within e_slope (within f)) (prod_within (within e) f_slope)

-- that of a star
abbrev pub star_slope : Pat → Option Pat → Option Pat
star_slope e slope = prod_within (star_within (within e)) slope

-- what is made once the tasks are done
abbrev pub outcome : ℕ → List Task → List (Option Pat) → List (Option Pat)
outcome k [] made = made
outcome k (Visit p ∷ tasks) made = outcome k tasks (within (derivative k (pattern_view p.now)) ∷ made)
outcome k (SumTask ∷ tasks) made = outcome k tasks (joined sum_within made)
outcome k (ProductTask e f ∷ tasks) made = outcome k tasks (joined (product_slope (pattern_view e.now) (pattern_view f.now)) made)
outcome k (StarTask e ∷ tasks) made = outcome k tasks (joined_one (star_slope (pattern_view e.now)) made)

-- how much there is to do
abbrev pub work : List Task → ℕ
work [] = 0
work (Visit p ∷ tasks) = 2 * size_of (pattern_view p.now) + work tasks
work (SumTask ∷ tasks) = 1 + work tasks
work (ProductTask e f ∷ tasks) = 1 + work tasks
work (StarTask e ∷ tasks) = 1 + work tasks
