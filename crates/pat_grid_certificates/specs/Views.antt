-- Values and right sides as the definitions see them.
use Rattle.std.specs.Prelude.{ℕ, List, map}
use Rattle.pat_bags.specs.declared.Bag.{Bag}
use Rattle.pat_patterns.specs.Views.{pattern_view}
use Rattle.pat_inclusion_spec.specs.Values.{VarValue, PatternForm, GridForm}
use Rattle.pat_inclusion_spec.specs.bounds.Assignments.{Right, PatternRight, VarRight}
use Rattle.pat_grid_certificates.specs.declared.values.VarValue.{VarValue as CodeValue}
use Rattle.pat_grid_certificates.specs.declared.values.VarValue.TheVariants.{Pattern, Grid}
use Rattle.pat_grid_certificates.specs.declared.values.Right.{Right as CodeRight}
use Rattle.pat_grid_certificates.specs.declared.values.Right.TheVariants.{Pattern as RightPattern, Var as RightVar}

-- the counts of bags
abbrev pub counts_view : List Bag → List (List ℕ)
counts_view bags = map (λ b. b.counts) bags

abbrev pub value_view : CodeValue → VarValue
value_view (Pattern p) = PatternForm (pattern_view p)
value_view (Grid k points) = GridForm k (counts_view points)

abbrev pub values_view : List CodeValue → List VarValue
values_view values = map value_view values

abbrev pub right_view : CodeRight → Right
right_view (RightPattern p) = PatternRight (pattern_view p)
right_view (RightVar j) = VarRight j
