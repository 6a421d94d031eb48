-- Words cut at a count.
use Rattle.std.specs.Prelude.{◌≡◌, ℕ, min}
use Rattle.pat_words_spec.specs.Words.{Word}
use Rattle.pat_words_spec.specs.Patterns.{Language}

-- the word with each count above k lowered to k
abbrev pub cut_at : ℕ → Word → Word
cut_at k w t = min (w t) k

-- u is a word of the set, cut
abbrev pub CutOf : ℕ → Language → Language
CutOf k L u = (w : Word) × L w × (u ≡ cut_at k w)
