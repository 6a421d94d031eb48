-- Right sides without variables: whether they are flat, and their degrees.
use Rattle.std.specs.Prelude.{ℕ, Bool, true, ◌&&◌, max, List, [], ◌∷◌}
use Rattle.pat_words_spec.specs.Flats.{is_flat, degree_of}
use Rattle.pat_inclusion_spec.specs.bounds.Assignments.{Right, PatternRight, VarRight, Constraint}

abbrev pub right_is_flat : Right → Bool
right_is_flat (PatternRight f) = is_flat f
right_is_flat (VarRight k) = true

abbrev pub right_degree : Right → ℕ
right_degree (PatternRight f) = degree_of f
right_degree (VarRight k) = 0

abbrev pub all_flat : List Constraint → Bool
all_flat [] = true
all_flat (c ∷ cs) = right_is_flat c.right && all_flat cs

abbrev pub greatest : List Constraint → ℕ
greatest [] = 0
greatest (c ∷ cs) = max (right_degree c.right) (greatest cs)
