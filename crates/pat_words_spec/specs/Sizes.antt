-- How large a pattern is.
use Rattle.std.specs.Prelude.{ℕ, ◌+◌, ◌≤◌, max}
use Rattle.pat_words_spec.specs.Patterns.{Pat, Sum, Prod, Star}
use Rattle.pat_words_spec.specs.Flats.{degree_of}

-- the number of nodes
abbrev pub size_of : Pat → ℕ
size_of (Sum e f) = 1 + (size_of e + size_of f)
size_of (Prod e f) = 1 + (size_of e + size_of f)
size_of (Star e) = 1 + size_of e
size_of _ = 1

-- the number of levels: one where there is no part, else one more than the part with the most
abbrev pub levels_of : Pat → ℕ
levels_of (Sum e f) = 1 + max (levels_of e) (levels_of f)
levels_of (Prod e f) = 1 + max (levels_of e) (levels_of f)
levels_of (Star e) = 1 + levels_of e
levels_of _ = 1

-- a pattern has a node, and no more levels than nodes
abbrev pub LevelsLaw : Type 0
LevelsLaw = (e : Pat) → (1 ≤ levels_of e) × (levels_of e ≤ size_of e)

-- the degree is no greater than the number of nodes
abbrev pub DegreeLaw : Type 0
DegreeLaw = (e : Pat) → degree_of e ≤ size_of e
