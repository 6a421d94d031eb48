-- What inference finds in the programs.
use Rattle.std.specs.Prelude.{◌≡◌, ℕ, List, [], ◌∷◌, Option, Some, None}
use Rattle.pat_semantics_spec.specs.Programs.{Program}
use Rattle.pat_type_schemes_spec.specs.Signatures.{Variable}
use Rattle.pat_type_schemes_spec.specs.NodeTypes.{NodeType}
use Rattle.pat_infer_spec.specs.Constraints.{Finding, Constraint}
use Rattle.pat_infer_spec.specs.Walk.{inferred, all_vars}

-- the first that is found
abbrev pub first_of : List Finding → Option Finding
first_of [] = None
first_of (x ∷ xs) = Some x

-- the first rule that is broken is this one
abbrev pub IsFirst : Program → Finding → Type 0
IsFirst p x = first_of (inferred p).findings ≡ Some x

-- no rule is broken, and these are the variables, the constraints and the nodes
pub record Finds (p : Program) (vars : List Variable) (constraints : List Constraint) (nodes : List (ℕ × NodeType)) : Type 0 where
  pub sound : (inferred p).findings ≡ []
  pub variables : all_vars p ≡ vars
  pub listed : (inferred p).constraints ≡ constraints
  pub found : (inferred p).nodes ≡ nodes
