-- The tree that a search shows is a least one.
use Rattle.std.specs.Prelude.{ℕ, ◌≤◌}
use Rattle.pat_words_spec.specs.Words.{Word}
use Rattle.pat_words_spec.specs.Patterns.{Pat}
use Rattle.pat_inclusion_spec.specs.bounds.Trees.{Bound, tree_size}
use Rattle.pat_inclusion_spec.specs.bounds.Searches.{Search, FoundAnswer, Refutes}

-- no tree that refutes has fewer nodes, whichever word it shows
abbrev pub IsLeastTree : (ℕ → Pat) → Pat → Pat → Bound → Type 0
IsLeastTree lower left right b = (w : Word) (c : Bound) → Refutes lower left right w c → tree_size b ≤ tree_size c

-- where the answer is a tree that refutes, it is a least one
abbrev pub IsLeastAnswer : (ℕ → Pat) → Pat → Pat → Search → Type 0
IsLeastAnswer lower left right (FoundAnswer w b) = IsLeastTree lower left right b
IsLeastAnswer lower left right _ = Unit {0}
