-- Values in which those behind them have been put.
use Rattle.std.specs.Prelude.{◌≡◌, ℕ, suc, ◌≤◌, ◌<◌, Bool, true, List, [], ◌∷◌, length, drop, get_or}
use Rattle.pat_words_spec.specs.Patterns.{Pat, Zero, subst_of}
use Rattle.pat_solve_spec.specs.Assignments.{Values, put_in_turn}
use Rattle.pat_solve_bounded.specs.replacing.Ascending.{paired}
use Rattle.pat_solve_bounded.specs.replacing.Replacing.{listed_in}
use Rattle.pat_solve_elimination.specs.Needing.{is_marked}
use Rattle.pat_solve_elimination.specs.Weighing.{weighed, deep, weights, depths, nodes_by, levels_by}
use Rattle.pat_solve_elimination.specs.declared.growing.Growth.{Growth}

-- each value, in which those behind it have been put one after another
abbrev pub resolved_of : Values → Values
resolved_of [] = []
resolved_of (v ∷ vs) = (v.0, put_in_turn vs v.1) ∷ resolved_of vs

-- the variables from a place on, with their values
abbrev pub from_place : List ℕ → List Pat → ℕ → Values
from_place ks es i = paired (drop i ks) (drop i es)

-- a weight that says nothing
abbrev pub no_growth : Growth
no_growth = record { nodes = 0; levels = 0 }

-- what stands at the place is its value with those behind it put in, and weighs no less than that does on the way
pub record IsResolvedAt (ks : List ℕ) (es rs : List Pat) (ws : List Growth) (i : ℕ) : Type 0 where
  pub value : get_or rs i Zero ≡ put_in_turn (from_place ks es (suc i)) (get_or es i Zero)
  pub nodes : weighed (weights (from_place ks es (suc i))) (get_or es i Zero) ≤ (get_or ws i no_growth).nodes
  pub levels : deep (depths (from_place ks es (suc i))) (get_or es i Zero) ≤ (get_or ws i no_growth).levels

-- so it is at each marked place from this one on
pub record AreResolved (ks : List ℕ) (es : List Pat) (marks : List Bool) (from : ℕ) (rs : List Pat) (ws : List Growth) : Type 0 where
  pub values : length rs ≡ length ks
  pub weights : length ws ≡ length ks
  pub each : (i : ℕ) → from ≤ i → i < length ks → is_marked marks i ≡ true → IsResolvedAt ks es rs ws i

-- the value with the variables replaced all at once, and no less than what it weighs by theirs
pub record Resolves (ks : List ℕ) (rs : List Pat) (ws : List Growth) (e : Pat) (made : Pat) (weight : Growth) : Type 0 where
  pub value : made ≡ subst_of (listed_in (paired ks rs)) e
  pub nodes : weighed (nodes_by ks ws) e ≤ weight.nodes
  pub levels : deep (levels_by ks ws) e ≤ weight.levels
