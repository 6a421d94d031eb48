-- Lower bounds of variables: what lies in them by the constraints that inference finds.
use Rattle.std.specs.Prelude.{ℕ, nat_eq, List, map, filter}
use Rattle.pat_words_spec.specs.Patterns.{Pat, Var}
use Rattle.pat_semantics_spec.specs.Programs.{Program}
use Rattle.pat_inclusion_spec.specs.bounds.Assignments as bounds
use Rattle.pat_inclusion_spec.specs.bounds.Assignments.{Right, PatternRight, VarRight, lower_of}
use Rattle.pat_infer_spec.specs.Constraints.{Constraint}
use Rattle.pat_infer_spec.specs.Walk.{inferred}

-- a right side that is one variable, or has none
abbrev pub right_side : Pat → Right
right_side (Var k) = VarRight k
right_side f = PatternRight f

-- the constraint between patterns, without its interface and its place
abbrev pub sides_of : Constraint → bounds.Constraint
sides_of c = record { left = c.left; right = right_side c.right }

-- the lower bound of each variable by the constraints: all left sides with that variable on the right, added up as they come
abbrev pub lowers : List Constraint → ℕ → Pat
lowers cs = lower_of (map sides_of cs)

-- the constraints of an interface
abbrev pub constraints_in : ℕ → List Constraint → List Constraint
constraints_in i cs = filter (λ c. nat_eq c.interface i) cs

-- the lower bound of each variable of the program
abbrev pub lowers_of : Program → ℕ → Pat
lowers_of p = lowers (inferred p).constraints

-- the same by the constraints of one interface alone: for its variables that is the same, and for all others it is 0
abbrev pub lowers_in : Program → ℕ → ℕ → Pat
lowers_in p i = lowers (constraints_in i (inferred p).constraints)
