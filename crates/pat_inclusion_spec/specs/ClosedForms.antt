-- The closed form of a pattern without variables: linear sets that together have its words.
use Rattle.std.specs.Prelude.{◌≡◌, ℕ, Bool, true, false, ◌&&◌, ◌||◌, nat_le, if◌then◌else◌, List, [], ◌∷◌, ◌++◌, length, map, Option, Some, None}
use Rattle.std.specs.List.{AllByRecursion}
use Rattle.pat_words_spec.specs.Words.{Word, no_word, one, plus}
use Rattle.pat_words_spec.specs.Patterns.{Pat, Zero, One, Tag, Sum, Prod, Star, Var}
use Rattle.pat_words_spec.specs.Sizes.{size_of, levels_of}
use Rattle.pat_inclusion_spec.specs.Counts.{is_empty_below, has_word}
use Rattle.pat_inclusion_spec.specs.LinearSets.{LinearSet, linear_set}
use Rattle.pat_limits.specs.Limits.{most_levels, most_nodes, most_sets}

-- the periods and one more at the end, unless it is empty or there already
abbrev pub add_period : ℕ → List Word → Word → List Word
add_period n ps p = if is_empty_below n p || has_word n ps p then ps else ps ++ p ∷ []

-- the periods and then the others
abbrev pub add_periods : ℕ → List Word → List Word → List Word
add_periods n ps [] = ps
add_periods n ps (q ∷ qs) = add_periods n (add_period n ps q) qs

-- the sums of a word of each: both bases together, the periods of the first and then those of the second
abbrev pub set_product : ℕ → LinearSet → LinearSet → LinearSet
set_product n a b = linear_set (plus a.base b.base) (add_periods n a.periods b.periods)

-- each set of the first list with each of the second
abbrev pub products : ℕ → List LinearSet → List LinearSet → List LinearSet
products n [] bs = []
products n (a ∷ more) bs = map (set_product n a) bs ++ products n more bs

-- the empty word alone
abbrev pub only_empty : LinearSet
only_empty = linear_set no_word []

-- the finite sums of words of the set with this base and these periods
abbrev pub star_by : ℕ → Word → List Word → List LinearSet
star_by n base [] = linear_set no_word (add_period n [] base) ∷ []
star_by n base (p ∷ ps) = only_empty ∷ linear_set base (add_period n (p ∷ ps) base) ∷ []

-- the finite sums of words of the set
abbrev pub set_star : ℕ → LinearSet → List LinearSet
set_star n s = star_by n s.base s.periods

-- the sets made so far, times the star of each further set in turn
abbrev pub times_stars : ℕ → List LinearSet → List LinearSet → List LinearSet
times_stars n made [] = made
times_stars n made (s ∷ ss) = times_stars n (products n made (set_star n s)) ss

-- the closed form, words being compared by the first n tags
abbrev pub sets_of : ℕ → Pat → List LinearSet
sets_of n Zero = []
sets_of n One = only_empty ∷ []
sets_of n (Tag m) = linear_set (one m) [] ∷ []
sets_of n (Sum e f) = sets_of n e ++ sets_of n f
sets_of n (Prod e f) = products n (sets_of n e) (sets_of n f)
sets_of n (Star e) = times_stars n (only_empty ∷ []) (sets_of n e)
sets_of n (Var k) = []

-- ---- how large it may become

-- the list has no more sets than are worked with
abbrev pub is_short : List LinearSet → Bool
is_short sets = nat_le (length sets) most_sets

-- each list that `times_stars` makes is short
abbrev pub stars_are_short : ℕ → List LinearSet → List LinearSet → Bool
stars_are_short n made [] = true
stars_are_short n made (s ∷ ss) =
    let next = products n made (set_star n s) in is_short next && stars_are_short n next ss

-- each list that is made on the way is short
abbrev pub lists_are_short : ℕ → Pat → Bool
lists_are_short n (Sum e f) = lists_are_short n e && lists_are_short n f && is_short (sets_of n (Sum e f))
lists_are_short n (Prod e f) = lists_are_short n e && lists_are_short n f && is_short (sets_of n (Prod e f))
lists_are_short n (Star e) = lists_are_short n e && stars_are_short n (only_empty ∷ []) (sets_of n e)
lists_are_short n _ = true

-- the pattern has no more nodes and levels than are worked with
abbrev pub is_small : Pat → Bool
is_small e = nat_le (size_of e) most_nodes && nat_le (levels_of e) most_levels

-- the closed form, unless it is too large
abbrev pub closed_form : ℕ → Pat → Option (List LinearSet)
closed_form n e = if is_small e && lists_are_short n e then Some (sets_of n e) else None

-- no period is empty
abbrev pub SetsClean : ℕ → List LinearSet → Type 0
SetsClean n ss = AllByRecursion (λ s. AllByRecursion (λ p. is_empty_below n p ≡ false) s.periods) ss
