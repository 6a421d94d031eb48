-- How the points of a grid are divided, and their sums.
use Rattle.std.specs.Prelude.{◌≡◌, ℕ, ◌+◌, ◌*◌, ◌<◌, ◌≤◌, List, [], length, get_or}
use Rattle.std.specs.Int.{bit_at}
use Rattle.pat_inclusion_spec.specs.bounds.Numbers.{points_in}
use Rattle.pat_grid_points.specs.Views.{summed}
use Rattle.pat_limits.specs.Limits.{most_points}
use Rattle.pat_grid_sums.specs.declared.shape.Shape.{Shape}
use Rattle.pat_grid_sums.specs.Sets.{In, AnyBefore, IsListed}

-- the first tags' points number the words, and those of the last tags the places in a word
pub record IsShape (k n : ℕ) (s : Shape) : Type 0 where
  pub bound : s.k ≡ k
  pub tags : s.high + s.low ≡ n
  pub words : s.words ≡ points_in k s.high
  pub width : s.width ≡ points_in k s.low
  pub room : s.width ≤ 64
  pub few : points_in k n ≤ most_points

-- at the first c places stand the sums of the point with the first c points
abbrev pub FilledTo : ℕ → ℕ → ℕ → ℕ → List ℕ → Type 0
FilledTo k n v c row = (w : ℕ) → w < c → get_or row w 0 ≡ summed k n v w

-- and there are no more
abbrev pub RowTo : ℕ → ℕ → ℕ → ℕ → List ℕ → Type 0
RowTo k n v c row = (length row ≡ c) × FilledTo k n v c row

-- the sums of the point with each point
abbrev pub IsRow : ℕ → ℕ → ℕ → List ℕ → Type 0
IsRow k n v row = RowTo k n v (points_in k n) row

-- the words at the sums of the point with each point have the bits; those of the sums are `scale` apart, from `from` on
abbrev pub HasSums : ℕ → ℕ → ℕ → List ℕ → ℕ → ℕ → ℕ → Type 0
HasSums k n v words bits from scale =
    (w q : ℕ) → w < points_in k n → bit_at bits q ≡ 1 → In words (from + summed k n v w * scale) q

-- the bits of word w are at its sum with the point
abbrev pub IsAtSum : ℕ → ℕ → ℕ → List ℕ → ℕ → ℕ → ℕ → Type 0
IsAtSum k n v words w h q = (h ≡ summed k n v w) × In words w q

-- in each word the bits are moved by the place
abbrev pub IsSum : List ℕ → Shape → ℕ → ℕ → ℕ → Type 0
IsSum others s l h q = (p : ℕ) × (p < s.width) × (h < length others) × In others h p × (q ≡ summed s.k s.low l p)

-- the words have just these bits
pub record Has (P : ℕ → ℕ → Type 0) (count : ℕ) (words : List ℕ) : Type 0 where
  pub as_many : length words ≡ count
  pub put : (h q : ℕ) → P h q → In words h q
  pub only : (h q : ℕ) → In words h q → P h q

-- for each place of a word the bits moved by it, if one of the words has the place
pub record AreMoved (ones others : List ℕ) (s : Shape) (m : ℕ) (all : List (List ℕ)) : Type 0 where
  pub as_many : length all ≡ m
  pub fits : (l : ℕ) → l < m → length (get_or all l []) ≤ length others
  pub moved : (l h : ℕ) → l < m → h < length ones → In ones h l → Has (IsSum others s l) (length others) (get_or all l [])

-- the words have just what was moved by a place of the bits
abbrev pub IsGathered : List (List ℕ) → Shape → ℕ → List ℕ → Type 0
IsGathered moved s bits words =
    Has (λ h q. (l : ℕ) × (l < length moved) × (bit_at bits l ≡ 1) × (h < s.words) × In (get_or moved l []) h q) s.words words

-- sums of a point of the word with those that were moved by its place
abbrev pub IsRowSum : List ℕ → List (List ℕ) → Shape → ℕ → ℕ → ℕ → Type 0
IsRowSum ones moved s i h q =
    (l w : ℕ) × (l < length moved) × In ones i l × (w < s.words) × (h ≡ summed s.k s.high i w) × In (get_or moved l []) w q

-- no word before it is the same
abbrev pub IsFirst : List ℕ → ℕ → Type 0
IsFirst ones i = (j : ℕ) → j < i → get_or ones j 0 ≡ get_or ones i 0 → ⊥

-- those of the other word, which is the same
abbrev pub IsAlikeSum : List ℕ → List (List ℕ) → Shape → ℕ → ℕ → ℕ → ℕ → Type 0
IsAlikeSum ones moved s i j h q = (get_or ones j 0 ≡ get_or ones i 0) × IsRowSum ones moved s j h q

-- those of all words that are the same as this one, which is the first of them
abbrev pub IsFirstSum : List ℕ → List (List ℕ) → Shape → ℕ → ℕ → ℕ → Type 0
IsFirstSum ones moved s i h q = IsFirst ones i × AnyBefore (IsAlikeSum ones moved s i) (length ones) h q

-- the numbers are those of the sums of a point of the one list with one of the other
pub record AreSums (k n : ℕ) (firsts seconds numbers : List ℕ) : Type 0 where
  pub within : (t : ℕ) → t < length numbers → get_or numbers t 0 < points_in k n
  pub only : (t : ℕ) → t < length numbers → (i j : ℕ) × (i < length firsts) × (j < length seconds) × (get_or numbers t 0 ≡ summed k n (get_or firsts i 0) (get_or seconds j 0))
  pub all : (i j : ℕ) → i < length firsts → j < length seconds → IsListed (summed k n (get_or firsts i 0) (get_or seconds j 0)) numbers
