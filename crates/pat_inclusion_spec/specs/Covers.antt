-- Direct covers: linear sets that lie in others because base and periods of each are made of the periods of one of the others.
use Rattle.std.specs.Prelude.{◌≡◌, ℕ, Bool, true, false, ◌&&◌, nat_eq, List, [], ◌∷◌, length, Option, Some, None, slice_get}
use Rattle.std.specs.List.{AllByRecursion}
use Rattle.pat_words_spec.specs.Words.{Word, plus}
use Rattle.pat_inclusion_spec.specs.Counts.{same_below}
use Rattle.pat_inclusion_spec.specs.LinearSets.{LinearSet, combined}

-- what covers a set: the place of another set, how often its periods make up the base, and how often they make up each period
pub record CoverEntry : Type 0 where
  pub set : ℕ
  pub base : List ℕ
  pub periods : List (List ℕ)

-- there is a number for each period, and so often taken they make the word
abbrev pub makes : ℕ → List Word → List ℕ → Word → Bool
makes n ps cs w = nat_eq (length cs) (length ps) && same_below n w (combined cs ps)

-- there is a number for each period, and so often taken they make the word from the base
abbrev pub makes_from : ℕ → Word → List Word → List ℕ → Word → Bool
makes_from n base ps cs w = nat_eq (length cs) (length ps) && same_below n w (plus base (combined cs ps))

-- there are numbers for each word, and the periods taken so often make it
abbrev pub make_each : ℕ → List Word → List (List ℕ) → List Word → Bool
make_each n ps [] [] = true
make_each n ps (cs ∷ more) (w ∷ ws) = makes n ps cs w && make_each n ps more ws
make_each n ps _ _ = false

-- the entry shows that the set lies in the other one, if there is one
abbrev pub entry_covers : ℕ → CoverEntry → LinearSet → Option LinearSet → Bool
entry_covers n entry s None = false
entry_covers n entry s (Some r) =
    makes_from n r.base r.periods entry.base s.base && make_each n r.periods entry.periods s.periods

-- there is an entry for each set, and it shows that the set lies in one of the others
abbrev pub is_cover : ℕ → List LinearSet → List LinearSet → List CoverEntry → Bool
is_cover n [] right [] = true
is_cover n (s ∷ ss) right (entry ∷ entries) =
    entry_covers n entry s (slice_get right entry.set) && is_cover n ss right entries
is_cover n _ right _ = false

-- ---- the same without numbers

-- the periods make the word
abbrev pub IsMadeOf : List Word → Word → Type 0
IsMadeOf ps w = (cs : List ℕ) × (w ≡ combined cs ps)

-- the set lies in the other one by its base and periods
pub record LiesDirectly (s r : LinearSet) : Type 0 where
  pub base : (cs : List ℕ) × (s.base ≡ plus r.base (combined cs r.periods))
  pub periods : AllByRecursion (IsMadeOf r.periods) s.periods

-- each set lies directly in one of the others
abbrev pub IsDirectlyCovered : List LinearSet → List LinearSet → Type 0
IsDirectlyCovered left right =
    AllByRecursion (λ s. (place : ℕ) × (r : LinearSet) × (slice_get right place ≡ Some r) × LiesDirectly s r) left
