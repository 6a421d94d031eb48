-- What a line says of a program behind its verdict.
use Rattle.std.specs.Prelude.{ℕ, zero, suc, List, [], ◌∷◌, ◌++◌, codes}
use Rattle.std.specs.Fmt.{decimal}
use Rattle.pat_words_spec.specs.Words.{Word}
use Rattle.pat_types.specs.Views.{RightForm, OneVariable, OtherPattern}
use Rattle.pat_derivation_text_spec.specs.patterns.PatternText.{pat_text}

-- a name so many times, with a space before each
abbrev pub times_words : ℕ → List ℕ → List ℕ
times_words zero x = []
times_words (suc n) x = 32 ∷ x ++ times_words n x

-- the names of a word's tags, where the first name is that of tag k: each as often as it occurs, with a space before it
abbrev pub tags_words : List (List ℕ) → ℕ → Word → List ℕ
tags_words [] k w = []
tags_words (x ∷ xs) k w = times_words (w k) x ++ tags_words xs (suc k) w

-- 1 stands for the empty word
abbrev pub one_or : List ℕ → List ℕ
one_or [] = codes " 1"
one_or (b ∷ bs) = b ∷ bs

abbrev pub word_words : List (List ℕ) → Word → List ℕ
word_words names w = one_or (tags_words names 0 w)

abbrev pub right_text : List (List ℕ) → RightForm → List ℕ
right_text names (OneVariable k) = 36 ∷ decimal k
right_text names (OtherPattern e) = pat_text names e

abbrev pub right_words : List (List ℕ) → RightForm → List ℕ
right_words names f = codes " not in " ++ right_text names f

-- a word, and the right side that it isn't one of
abbrev pub refuted_words : List (List ℕ) → Word → RightForm → List ℕ
refuted_words names w f = codes ": word" ++ (word_words names w ++ right_words names f)
