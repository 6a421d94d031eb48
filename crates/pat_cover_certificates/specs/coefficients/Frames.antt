-- A search for numbers, as far as it has come.
use Rattle.std.specs.Prelude.{◌≡◌, ℕ, zero, suc, ◌+◌, ◌*◌, ◌-◌, ◌^◌, ◌<◌, ◌≤◌, ◌⊎◌, List, [], ◌∷◌, length, map, drop, slice_get, Option, Some, None, IsTrue}
use Rattle.pat_words_spec.specs.Words.{Word, no_word, plus}
use Rattle.pat_bags.specs.declared.Bag.{Bag}
use Rattle.pat_bags.specs.Views.{word_of}
use Rattle.pat_inclusion_spec.specs.Counts.{most_tags, scaled}
use Rattle.pat_inclusion_spec.specs.Covers.{makes}
use Rattle.pat_cover_certificates.specs.declared.coefficients.failed.Note.{Note}
use Rattle.pat_cover_certificates.specs.declared.coefficients.frames.Frame.{Frame}
use Rattle.pat_cover_certificates.specs.coefficients.Numbers.{NoNumbers}
use Rattle.pat_limits.specs.Limits.{most_number, number_count}

-- the numbers so far
abbrev pub numbers_of : List Frame → List ℕ
numbers_of fs = map (λ f. f.number) fs

-- what is left of the word
abbrev pub left_of : Word → List Frame → Word
left_of w [] = w
left_of w (f ∷ fs) = left_of (word_of f.left) fs

-- the periods still to come
abbrev pub to_come : List Word → List Frame → List Word
to_come ps [] = ps
to_come [] (f ∷ fs) = []
to_come (p ∷ ps) (f ∷ fs) = to_come ps fs

-- each frame has what was left before its period, and what is left once that is taken so often; and by no lower number do the periods
-- from there on make what was left before
abbrev pub Stands : ℕ → List Word → Word → List Frame → Type 0
Stands n ps w [] = Unit {0}
Stands n [] w (f ∷ fs) = ⊥
Stands n (p ∷ ps) w (f ∷ fs) =
    (plus (word_of f.left) (scaled f.number p) ≡ w)
    × ((m : ℕ) → m < f.number → (cs : List ℕ) → IsTrue (makes n (p ∷ ps) (m ∷ cs) w) → ⊥)
    × Stands n ps (word_of f.left) fs
    × (word_of f.before ≡ w)

-- one more of the period is taken, or it is empty, or not so much is left
abbrev pub TakesOne : Frame → Word → Option Frame → Type 0
TakesOne f p (Some g) =
    (g.number ≡ f.number + 1) × (g.number < 2 ^ 32) × (plus (word_of g.left) p ≡ word_of f.left) × (word_of g.before ≡ word_of f.before)
TakesOne f p None = (p ≡ no_word) ⊎ (((t : ℕ) → t < most_tags → p t ≤ word_of f.left t) → ⊥)

-- ---- what came to nothing

-- each note is right: the periods from its place on don't make what is left
abbrev pub CameToNothing : ℕ → List Word → List (Option Note) → Type 0
CameToNothing n ps failed = (i : ℕ) (note : Note) → slice_get failed i ≡ Some (Some note) → NoNumbers n (drop note.place ps) (word_of note.left)

-- one more of the period is taken; or that can't be, or what is left then is not made from the place on
abbrev pub GoesOn : ℕ → List Word → ℕ → Frame → Word → Option Frame → Type 0
GoesOn n ps place f p (Some g) = TakesOne f p (Some g)
GoesOn n ps place f p None = TakesOne f p None ⊎ ((v : Word) × (plus v p ≡ word_of f.left) × NoNumbers n (drop place ps) v)

-- ---- how much is still to be searched, at most

-- the lists of at most so many numbers
abbrev pub lists_of : ℕ → ℕ
lists_of zero = 1
lists_of (suc k) = 1 + number_count * lists_of k

-- those that don't come before the numbers so far
abbrev pub lists_left : List Word → List Frame → ℕ
lists_left ps [] = lists_of (length ps)
lists_left [] (f ∷ fs) = 1
lists_left (p ∷ ps) (f ∷ fs) = (most_number - f.number) * lists_of (length ps) + lists_left ps fs

-- what comes of going on to the next numbers: what is left then, or none are left
abbrev pub Advances : ℕ → List Word → Word → List Frame → List Frame → Option Bag → Type 0
Advances n ps w old new (Some left) =
    Stands n ps w new × (word_of left ≡ left_of w new) × (lists_left ps new < lists_left ps old)
Advances n ps w old new None = NoNumbers n ps w
