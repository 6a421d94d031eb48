-- Variables that give way to their values all at once, and what a pattern comes to so before it is simplified.
use Rattle.std.specs.Prelude.{◌≡◌, ℕ, ◌+◌, ◌≤◌, true, false, List, [], ◌∷◌}
use Rattle.pat_words_spec.specs.Patterns.{Pat, Sum, Prod, Star, Var}
use Rattle.pat_words_spec.specs.Sizes.{size_of, levels_of}
use Rattle.pat_solve_spec.specs.Assignments.{Values}
use Rattle.pat_solve_bounded.specs.Variables.{has_var}
use Rattle.pat_solve_bounded.specs.replacing.Replacing.{listed_in}
use Rattle.pat_limits.specs.Limits.{most_levels, most_nodes}

-- the pattern has none of the variables
abbrev pub Lacks : Values → Pat → Type 0
Lacks [] e = Unit {0}
Lacks (v ∷ vs) e = (has_var v.0 e ≡ false) × Lacks vs e

-- the nodes of a pattern, where each variable counts as its value
abbrev pub grown : Values → Pat → ℕ
grown vs (Var k) = size_of (listed_in vs k)
grown vs (Sum e f) = 1 + (grown vs e + grown vs f)
grown vs (Prod e f) = 1 + (grown vs e + grown vs f)
grown vs (Star e) = 1 + grown vs e
grown vs _ = 1

-- those of all patterns
abbrev pub all_grown : Values → List Pat → ℕ
all_grown vs [] = 0
all_grown vs (e ∷ es) = grown vs e + all_grown vs es

-- what variable k gives way to has none of the variables, and no more levels than that
pub record Settled (vs : Values) (most : ℕ) (k : ℕ) : Type 0 where
  pub levels : levels_of (listed_in vs k) ≤ most
  pub lacks : Lacks vs (listed_in vs k)

-- there is a variable; no value that comes in has one, and with each value as it stands the pattern is within the limits
pub record MayGrow (vs : Values) (f : Pat) : Type 0 where
  pub some : vs ≡ [] → ⊥
  pub most : ℕ
  pub settled : (k : ℕ) → has_var k f ≡ true → Settled vs most k
  pub nodes : grown vs f ≤ most_nodes
  pub levels : levels_of f + most ≤ most_levels
