-- The first cover: each set is covered by the first one that can, by the first numbers in the order of lists.
use Rattle.std.specs.Prelude.{◌≡◌, ℕ, false, List, [], ◌∷◌, take, Option, Some, None, slice_get, IsTrue}
use Rattle.std.specs.List.{AllByRecursion}
use Rattle.pat_words_spec.specs.Words.{Word}
use Rattle.pat_inclusion_spec.specs.LinearSets.{LinearSet}
use Rattle.pat_inclusion_spec.specs.Covers.{CoverEntry, makes_from, make_each, entry_covers, is_cover}
use Rattle.pat_inclusion_spec.specs.Points.{comes_before}
use Rattle.pat_cover_certificates.specs.coefficients.Numbers.{MakesFirst}

-- from the base the periods make the word by these numbers, and by no list of numbers that comes before them
abbrev pub MakesFirstFrom : ℕ → Word → List Word → List ℕ → Word → Type 0
MakesFirstFrom n base ps cs w =
    IsTrue (makes_from n base ps cs w) × ((ds : List ℕ) → IsTrue (makes_from n base ps ds w) → comes_before ds cs ≡ false)

-- for each word the first numbers
abbrev pub MakeEachFirst : ℕ → List Word → List (List ℕ) → List Word → Type 0
MakeEachFirst n ps [] [] = Unit {0}
MakeEachFirst n ps (cs ∷ more) (w ∷ ws) = MakesFirst n ps cs w × MakeEachFirst n ps more ws
MakeEachFirst n ps _ _ = ⊥

-- the entry has the first numbers that show that s lies in r
abbrev pub CoversFirst : ℕ → CoverEntry → LinearSet → LinearSet → Type 0
CoversFirst n entry s r =
    MakesFirstFrom n r.base r.periods entry.base s.base × MakeEachFirst n r.periods entry.periods s.periods

-- no entry shows that s lies in r
abbrev pub IsOutside : ℕ → LinearSet → LinearSet → Type 0
IsOutside n s r = (entry : CoverEntry) → IsTrue (entry_covers n entry s (Some r)) → ⊥

-- the entry names the first set in which s lies, with the first numbers that show it
abbrev pub IsFirstEntry : ℕ → CoverEntry → LinearSet → List LinearSet → Type 0
IsFirstEntry n entry s right =
    (r : LinearSet) × (slice_get right entry.set ≡ Some r) × CoversFirst n entry s r × AllByRecursion (IsOutside n s) (take entry.set right)

-- for each set the first entry
abbrev pub IsFirstCover : ℕ → List LinearSet → List LinearSet → List CoverEntry → Type 0
IsFirstCover n [] right [] = Unit {0}
IsFirstCover n (s ∷ ss) right (entry ∷ entries) = IsFirstEntry n entry s right × IsFirstCover n ss right entries
IsFirstCover n _ right _ = ⊥

-- ---- what a search finds

abbrev pub FindsFrom : ℕ → Word → List Word → Word → Option (List ℕ) → Type 0
FindsFrom n base ps w (Some cs) = MakesFirstFrom n base ps cs w
FindsFrom n base ps w None = (cs : List ℕ) → IsTrue (makes_from n base ps cs w) → ⊥

abbrev pub FindsEach : ℕ → List Word → List Word → Option (List (List ℕ)) → Type 0
FindsEach n ps ws (Some numbers) = MakeEachFirst n ps numbers ws
FindsEach n ps ws None = (numbers : List (List ℕ)) → IsTrue (make_each n ps numbers ws) → ⊥

abbrev pub FindsEntryIn : ℕ → LinearSet → LinearSet → Option CoverEntry → Type 0
FindsEntryIn n s r (Some entry) = CoversFirst n entry s r
FindsEntryIn n s r None = IsOutside n s r

abbrev pub FindsEntry : ℕ → LinearSet → List LinearSet → Option CoverEntry → Type 0
FindsEntry n s right (Some entry) = IsFirstEntry n entry s right
FindsEntry n s right None = AllByRecursion (IsOutside n s) right

abbrev pub FindsCover : ℕ → List LinearSet → List LinearSet → Option (List CoverEntry) → Type 0
FindsCover n left right (Some cover) = IsFirstCover n left right cover
FindsCover n left right None = (cover : List CoverEntry) → IsTrue (is_cover n left right cover) → ⊥
