-- The words of a pattern without variables, each cut at k: a list of points.
use Rattle.std.specs.Prelude.{ℕ, zero, suc, Bool, if◌then◌else◌, List, [], ◌∷◌}
use Rattle.std.specs.List.{list_all}
use Rattle.pat_words_spec.specs.Words.{Word, no_word, one, plus}
use Rattle.pat_words_spec.specs.Patterns.{Pat, Zero, One, Tag, Sum, Prod, Star, Var}
use Rattle.pat_words_spec.specs.Cuts.{cut_at}
use Rattle.pat_inclusion_spec.specs.Counts.{has_word, scaled}

-- the points and one more, unless it is there already
abbrev pub add_point : ℕ → Word → List Word → List Word
add_point n w ws = if has_word n ws w then ws else w ∷ ws

-- the points of both
abbrev pub add_points : ℕ → List Word → List Word → List Word
add_points n [] ws = ws
add_points n (v ∷ vs) ws = add_point n v (add_points n vs ws)

-- the sums of the word and each of the points, cut
abbrev pub shifted : ℕ → ℕ → Word → List Word → List Word
shifted k n v [] = []
shifted k n v (w ∷ ws) = add_point n (cut_at k (plus v w)) (shifted k n v ws)

-- the sums of a point of each, cut
abbrev pub point_sums : ℕ → ℕ → List Word → List Word → List Word
point_sums k n [] ws = []
point_sums k n (v ∷ vs) ws = add_points n (shifted k n v ws) (point_sums k n vs ws)

-- no, one, and so on up to c times the point, cut
abbrev pub multiples : ℕ → ℕ → ℕ → Word → List Word
multiples k n zero w = no_word ∷ []
multiples k n (suc c) w = add_point n (cut_at k (scaled (suc c) w)) (multiples k n c w)

-- the points made so far, and any number of times each further point, cut
abbrev pub with_multiples : ℕ → ℕ → List Word → List Word → List Word
with_multiples k n made [] = made
with_multiples k n made (w ∷ ws) = with_multiples k n (point_sums k n made (multiples k n k w)) ws

-- the words of the pattern, cut, words being compared by the first n tags
abbrev pub cuts_of : ℕ → ℕ → Pat → List Word
cuts_of k n Zero = []
cuts_of k n One = no_word ∷ []
cuts_of k n (Tag m) = cut_at k (one m) ∷ []
cuts_of k n (Sum e f) = add_points n (cuts_of k n e) (cuts_of k n f)
cuts_of k n (Prod e f) = point_sums k n (cuts_of k n e) (cuts_of k n f)
cuts_of k n (Star e) = with_multiples k n (no_word ∷ []) (cuts_of k n e)
cuts_of k n (Var m) = []

-- each word of e, cut, is a word of f, cut
abbrev pub cuts_lie : ℕ → ℕ → Pat → Pat → Bool
cuts_lie k n e f = let points = cuts_of k n f in list_all (has_word n points) (cuts_of k n e)
