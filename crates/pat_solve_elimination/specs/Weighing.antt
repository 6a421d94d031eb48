-- How many nodes and levels a pattern has while variables give way to their values one after another, before anything is simplified.
use Rattle.std.specs.Prelude.{ℕ, ◌+◌, max, nat_eq, if◌then◌else◌, List, [], ◌∷◌}
use Rattle.pat_words_spec.specs.Patterns.{Pat, Sum, Prod, Star, Var}
use Rattle.pat_solve_spec.specs.Assignments.{Values}
use Rattle.pat_solve_elimination.specs.declared.growing.Growth.{Growth}

-- the nodes of a pattern, where each variable counts for so many
abbrev pub weighed : (ℕ → ℕ) → Pat → ℕ
weighed w (Var k) = w k
weighed w (Sum e f) = 1 + (weighed w e + weighed w f)
weighed w (Prod e f) = 1 + (weighed w e + weighed w f)
weighed w (Star e) = 1 + weighed w e
weighed w _ = 1

-- those of all patterns
abbrev pub all_weighed : (ℕ → ℕ) → List Pat → ℕ
all_weighed w [] = 0
all_weighed w (e ∷ es) = weighed w e + all_weighed w es

-- the levels of a pattern, where each variable counts for so many
abbrev pub deep : (ℕ → ℕ) → Pat → ℕ
deep d (Var k) = d k
deep d (Sum e f) = 1 + max (deep d e) (deep d f)
deep d (Prod e f) = 1 + max (deep d e) (deep d f)
deep d (Star e) = 1 + deep d e
deep d _ = 1

-- what each variable counts for, which gives way to its value before those behind it do
abbrev pub weights : Values → ℕ → ℕ
weights [] k = 1
weights (v ∷ vs) k = if nat_eq k v.0 then weighed (weights vs) v.1 else weights vs k

abbrev pub depths : Values → ℕ → ℕ
depths [] k = 1
depths (v ∷ vs) k = if nat_eq k v.0 then deep (depths vs) v.1 else depths vs k

-- what each variable counts for that stands with a weight
abbrev pub nodes_by : List ℕ → List Growth → ℕ → ℕ
nodes_by (k ∷ ks) (w ∷ ws) j = if nat_eq j k then w.nodes else nodes_by ks ws j
nodes_by _ _ j = 1

abbrev pub levels_by : List ℕ → List Growth → ℕ → ℕ
levels_by (k ∷ ks) (w ∷ ws) j = if nat_eq j k then w.levels else levels_by ks ws j
levels_by _ _ j = 1
