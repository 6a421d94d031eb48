-- Lower bounds of variables of a list, added up constraint by constraint.
use Rattle.std.specs.Prelude.{ℕ, List, [], ◌∷◌, map, get_or}
use Rattle.pat_words_spec.specs.Patterns.{Pat, Zero}
use Rattle.pat_inclusion_spec.specs.bounds.Assignments.{PatternRight, Constraint, with_left}
use Rattle.pat_solve_bounds.specs.renumbered.Renaming.{renamed}

-- the constraint with the number; one between patterns 0 where there is none
abbrev pub side_at : List Constraint → ℕ → Constraint
side_at cs n = get_or cs n (record { left = Zero; right = PatternRight Zero })

-- those with these numbers
abbrev pub picked : List Constraint → List ℕ → List Constraint
picked cs ns = map (side_at cs) ns

-- the constraint with its left side renamed
abbrev pub renamed_side : (ℕ → ℕ) → Constraint → Constraint
renamed_side place c = record { left = renamed place c.left; right = c.right }

-- the lower bounds of the variables, with the left side of one more constraint
abbrev pub added : Constraint → List ℕ → List Pat → List Pat
added c [] es = []
added c (k ∷ ks) [] = []
added c (k ∷ ks) (e ∷ es) = with_left k e c.left c.right ∷ added c ks es

-- of each of the constraints
abbrev pub all_added : List Constraint → List ℕ → List Pat → List Pat
all_added [] ks es = es
all_added (c ∷ cs) ks es = all_added cs ks (added c ks es)
