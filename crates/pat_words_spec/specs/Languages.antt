-- Sets of words: of a list, of two sets, and sums of words of sets.
use Rattle.std.specs.Prelude.{◌≡◌, ℕ, List, [], ◌∷◌, ◌⊎◌}
use Rattle.pat_words_spec.specs.Words.{Word, plus}
use Rattle.pat_words_spec.specs.Patterns.{Language, Times}

-- one of the words
abbrev pub MemberOf : List Word → Language
MemberOf [] w = ⊥
MemberOf (p ∷ ps) w = (p ≡ w) ⊎ MemberOf ps w

-- a word of either set
abbrev pub EitherOf : Language → Language → Language
EitherOf L M w = L w ⊎ M w

-- a word of the one set and a word of the other together
abbrev pub SumOf : Language → Language → Language
SumOf L M w = (u v : Word) × L u × M v × (w ≡ plus u v)

-- a finite sum of words of the set
abbrev pub StarOf : Language → Language
StarOf L w = (n : ℕ) × Times n L w
