-- Patterns within the limits on nodes and levels, and what is made of them, unless it is too large.
use Rattle.std.specs.Prelude.{◌≡◌, ◌<◌, ℕ, Bool, true, false, if◌then◌else◌, Option, Some, None}
use Rattle.pat_words_spec.specs.Patterns.{Pat, Zero, Sum, is_zero, sum_of, prod_of, star_of}
use Rattle.pat_words_spec.specs.Sizes.{size_of, levels_of}
use Rattle.pat_inclusion_spec.specs.ClosedForms.{is_small}
use Rattle.pat_solve_bounded.specs.Variables.{has_var}

-- the pattern, unless it is too large
abbrev pub within : Pat → Option Pat
within e = if is_small e then Some e else None

-- the sum of two patterns, either of which may be too large
abbrev pub sum_within : Option Pat → Option Pat → Option Pat
sum_within (Some e) (Some f) = within (sum_of e f)
sum_within _ _ = None

-- 0, if the pattern is 0
abbrev pub zero_if : Pat → Option Pat
zero_if e = if is_zero e then Some Zero else None

-- their product: with 0 it is 0, however large the other is
abbrev pub prod_within : Option Pat → Option Pat → Option Pat
prod_within None None = None
prod_within None (Some f) = zero_if f
prod_within (Some e) None = zero_if e
prod_within (Some e) (Some f) = within (prod_of e f)

-- the star
abbrev pub star_within : Option Pat → Option Pat
star_within None = None
star_within (Some e) = within (star_of e)

-- a sum or a product of the two, as it stands, is within the limits
abbrev pub both_fit : Pat → Pat → Bool
both_fit e f = is_small (Sum e f)

-- these are the numbers of nodes and levels of the pattern, and they are within the limits; no variable below the least occurs
pub record IsMeasured (nodes levels least : ℕ) (e : Pat) : Type 0 where
  pub nodes_are : nodes ≡ size_of e
  pub levels_are : levels ≡ levels_of e
  pub small : is_small e ≡ true
  pub none_below : (k : ℕ) → k < least → has_var k e ≡ false
