-- What a search for a derivable word outside a pattern may answer.
use Rattle.std.specs.Prelude.{ℕ, ◌≤◌, ◌<◌, Bool, true, false}
use Rattle.pat_words_spec.specs.Words.{Word}
use Rattle.pat_words_spec.specs.Patterns.{Pat, In}
use Rattle.pat_inclusion_spec.specs.bounds.Trees.{Bound, tree_size, Shows, Derivable}

-- the tree shows a word of the left that isn't one of the right
abbrev pub Refutes : (ℕ → Pat) → Pat → Pat → Word → Bound → Type 0
Refutes lower left right w b = Shows lower b left w × (In right w → ⊥)

-- each derivable word of the left is one of the right
abbrev pub IsInside : (ℕ → Pat) → Pat → Pat → Type 0
IsInside lower left right = (w : Word) → Derivable lower left w → In right w

-- a tree within the limit refutes
abbrev pub IsFound : ℕ → (ℕ → Pat) → Pat → Pat → Word → Bound → Type 0
IsFound limit lower left right w b = Refutes lower left right w b × (tree_size b ≤ limit)

-- some tree refutes, and each that does has more nodes than the limit
abbrev pub IsLarge : ℕ → (ℕ → Pat) → Pat → Pat → Type 0
IsLarge limit lower left right =
    ((w : Word) × (b : Bound) × Refutes lower left right w b)
    × ((w : Word) (b : Bound) → Refutes lower left right w b → limit < tree_size b)

-- an answer of a search
pub data Search : Type 0 where
  InsideAnswer : Search
  FoundAnswer : (word : Word) → (tree : Bound) → Search
  LargeAnswer : Search

-- the answer is right
abbrev pub IsAnswer : ℕ → (ℕ → Pat) → Pat → Pat → Search → Type 0
IsAnswer limit lower left right InsideAnswer = IsInside lower left right
IsAnswer limit lower left right (FoundAnswer w b) = IsFound limit lower left right w b
IsAnswer limit lower left right LargeAnswer = IsLarge limit lower left right

abbrev pub says_inside : Search → Bool
says_inside InsideAnswer = true
says_inside _ = false

abbrev pub says_large : Search → Bool
says_large LargeAnswer = true
says_large _ = false
