-- Linear sets of words: a base, and periods that may each be added any number of times.
use Rattle.std.specs.Prelude.{◌≡◌, ℕ, ◌≤◌, List, [], ◌∷◌, ◌⊎◌}
use Rattle.std.specs.List.{AllByRecursion}
use Rattle.pat_words_spec.specs.Words.{Word, no_word, plus}
use Rattle.pat_words_spec.specs.Tags.{HasTagsBelow}
use Rattle.pat_inclusion_spec.specs.Counts.{scaled}

-- a base and periods
pub record LinearSet : Type 0 where
  pub base : Word
  pub periods : List Word

-- the set with these
abbrev pub linear_set : Word → List Word → LinearSet
linear_set base periods = record { base = base; periods = periods }

-- the sum of the words, each taken as often as the number at its place says
abbrev pub combined : List ℕ → List Word → Word
combined (c ∷ cs) (p ∷ ps) = plus (scaled c p) (combined cs ps)
combined _ _ = no_word

-- w is in the set: its base, and each period some number of times
abbrev pub InSet : LinearSet → Word → Type 0
InSet s w = (cs : List ℕ) × (w ≡ plus s.base (combined cs s.periods))

-- w is in one of the sets
abbrev pub InSets : List LinearSet → Word → Type 0
InSets [] w = ⊥
InSets (s ∷ ss) w = InSet s w ⊎ InSets ss w

-- base and periods have none of the tags from n on
abbrev pub SetBelow : ℕ → LinearSet → Type 0
SetBelow n s = HasTagsBelow n s.base × AllByRecursion (HasTagsBelow n) s.periods

abbrev pub SetsBelow : ℕ → List LinearSet → Type 0
SetsBelow n ss = AllByRecursion (SetBelow n) ss

-- no count is above c
abbrev pub WordWithin : ℕ → Word → Type 0
WordWithin c u = (t : ℕ) → u t ≤ c

-- no count of a base is above x, and none of a period above c
abbrev pub SetWithin : ℕ → ℕ → LinearSet → Type 0
SetWithin x c s = WordWithin x s.base × AllByRecursion (WordWithin c) s.periods

abbrev pub SetsWithin : ℕ → ℕ → List LinearSet → Type 0
SetsWithin x c ss = AllByRecursion (SetWithin x c) ss
