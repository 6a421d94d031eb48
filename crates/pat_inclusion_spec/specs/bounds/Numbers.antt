-- Points as numbers, and a table as one list of entries.
use Rattle.std.specs.Prelude.{◌≡◌, ℕ, zero, suc, ◌+◌, ◌*◌, ◌^◌, ◌/◌, ◌%◌, ◌<◌, ◌≤◌, nat_eq, if◌then◌else◌, Bool, List, [], ◌∷◌, length, get_or}
use Rattle.pat_words_spec.specs.Words.{Word}
use Rattle.pat_inclusion_spec.specs.bounds.CutSets.{IsPoint}
use Rattle.pat_inclusion_spec.specs.bounds.Tables.{Setting, Table, Step}

-- the number of points of the grid of n tags with bound k
abbrev pub points_in : ℕ → ℕ → ℕ
points_in k n = (k + 1) ^ n

-- the number of a point: its counts are digits, that of the first tag the highest
abbrev pub number_of : ℕ → ℕ → Word → ℕ
number_of k zero u = 0
number_of k (suc n) u = number_of k n u * (k + 1) + u n

-- the point with the number
abbrev pub point_of : ℕ → ℕ → ℕ → Word
point_of k zero c t = 0
point_of k (suc n) c t = if nat_eq t n then c % (k + 1) else point_of k n (c / (k + 1)) t

-- the place of an entry
abbrev pub place_of : Setting → ℕ → Word → ℕ
place_of g s u = s * points_in g.bound g.tags + number_of g.bound g.tags u

-- an entry that knows of no tree
abbrev pub unknown : ℕ → ℕ
unknown limit = limit + 2

-- the table of a list of entries: those of the first symbol, then those of the second, and so on
abbrev pub table_of : Setting → List ℕ → Table
table_of g entries s u = get_or entries (place_of g s u) (unknown g.limit)

-- as many entries as there are symbols and points
abbrev pub HasAllEntries : Setting → List ℕ → Type 0
HasAllEntries g entries = length entries ≡ length g.flat.symbols * points_in g.bound g.tags

-- no step of one of the first m symbols gives less than the table has
abbrev pub IsClosedBefore : Setting → Table → ℕ → Type 0
IsClosedBefore g table m =
    (s : ℕ) (u : Word) (size : ℕ) → s < m → IsPoint g.bound g.tags u → Step g table s u size → table s u ≤ size

-- no step from the entries that were passed on gives less than the table has
abbrev pub IsClosedOver : Setting → Table → Table → Type 0
IsClosedOver g passed table =
    (s : ℕ) (u : Word) (size : ℕ) → IsPoint g.bound g.tags u → Step g passed s u size → table s u ≤ size

-- the counts of the first n tags
abbrev pub counts_of : ℕ → Word → List ℕ
counts_of zero u = []
counts_of (suc n) u = u 0 ∷ counts_of n (λ t. u (suc t))

-- of m numbers from c on, the points of those that the test says yes to
abbrev pub points_from : ℕ → ℕ → (ℕ → Bool) → ℕ → ℕ → List (List ℕ)
points_from k n test c zero = []
points_from k n test c (suc m) =
    let more = points_from k n test (suc c) m in if test c then counts_of n (point_of k n c) ∷ more else more

-- the points whose number the test says yes to
abbrev pub points_where : ℕ → ℕ → (ℕ → Bool) → List (List ℕ)
points_where k n test = points_from k n test 0 (points_in k n)
