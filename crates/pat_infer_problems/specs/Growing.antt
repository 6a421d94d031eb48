-- How a problem grows.
use Rattle.std.specs.Prelude.{◌≡◌, ℕ, List, [], ◌∷◌, ◌++◌, map, slice_set}
use Rattle.pat_type_schemes_spec.specs.NodeTypes.{NodeType}
use Rattle.pat_types.specs.Views.{node_type_view}
use Rattle.pat_infer_problems.specs.Views.{PlacedVariable, placed_variable_of, PlacedConstraint, constraint_view}
use Rattle.pat_infer_problems.specs.declared.problem.Problem.{Problem}

-- the types of nodes, where these are set one after another
abbrev pub settled : List (ℕ × NodeType) → List NodeType → List NodeType
settled [] ts = ts
settled (e ∷ es) ts = settled es (slice_set ts e.0 e.1)

-- the new problem has these variables and constraints besides, and these types of nodes
pub record Grows (old new : Problem) (vs : List PlacedVariable) (cs : List PlacedConstraint) (es : List (ℕ × NodeType)) : Type 0 where
  pub vars : map placed_variable_of new.vars ≡ map placed_variable_of old.vars ++ vs
  pub constraints : map constraint_view new.constraints ≡ map constraint_view old.constraints ++ cs
  pub nodes : map node_type_view new.nodes ≡ settled es (map node_type_view old.nodes)
