-- Sets of words, each cut at k, and how cutting goes through patterns.
use Rattle.std.specs.Prelude.{◌≡◌, ℕ, zero, suc, ◌⊎◌, List, [], ◌∷◌}
use Rattle.pat_words_spec.specs.Words.{Word, no_word, one, plus}
use Rattle.pat_words_spec.specs.Patterns.{Pat, Zero, One, Tag, Sum, Prod, Star, Var, Language}
use Rattle.pat_words_spec.specs.Cuts.{cut_at, CutOf}
use Rattle.pat_words_spec.specs.Tags.{HasTagsBelow}
use Rattle.pat_words_spec.specs.Languages.{MemberOf}

-- u is a point of the grid of n tags with bound k
abbrev pub IsPoint : ℕ → ℕ → Word → Type 0
IsPoint k n u = HasTagsBelow n u × (u ≡ cut_at k u)

-- a sum of so many points of the set, cut after each
abbrev pub CutTimes : ℕ → ℕ → Language → Language
CutTimes k zero L u = u ≡ no_word
CutTimes k (suc c) L u = (v w : Word) × L v × CutTimes k c L w × (u ≡ cut_at k (plus v w))

-- the points of the pattern, where each variable has the given points
abbrev pub CutUnder : ℕ → (ℕ → Language) → Pat → Language
CutUnder k points Zero u = ⊥
CutUnder k points One u = u ≡ no_word
CutUnder k points (Tag m) u = u ≡ cut_at k (one m)
CutUnder k points (Sum e f) u = CutUnder k points e u ⊎ CutUnder k points f u
CutUnder k points (Prod e f) u = (v w : Word) × CutUnder k points e v × CutUnder k points f w × (u ≡ cut_at k (plus v w))
CutUnder k points (Star e) u = (c : ℕ) × CutTimes k c (CutUnder k points e) u
CutUnder k points (Var j) u = points j u

-- each variable has all points of its lower bound
abbrev pub CutMeets : ℕ → (ℕ → Pat) → (ℕ → Language) → Type 0
CutMeets k lower points = (j : ℕ) (u : Word) → CutUnder k points (lower j) u → points j u
