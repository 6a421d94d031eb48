-- Grids: points are words whose counts are cut at k, and a set of points stands for the words that are cut to one of them.
use Rattle.std.specs.Prelude.{ℕ, zero, suc, ◌+◌, ◌^◌, Bool, true, false, ◌&&◌, ◌||◌, nat_eq, nat_lt, nat_le, if◌then◌else◌, List, [], ◌∷◌}
use Rattle.std.specs.List.{list_all, list_any}
use Rattle.pat_words_spec.specs.Words.{Word}
use Rattle.pat_words_spec.specs.Patterns.{Pat, Zero, One, Tag, Star, sum_of, prod_of}
use Rattle.pat_inclusion_spec.specs.Counts.{counted}
use Rattle.pat_limits.specs.Limits.{most_points}

-- a grid of n tags with bound k is one that is worked with
abbrev pub grid_fits : ℕ → ℕ → Bool
grid_fits k n = nat_le 1 k && nat_le ((k + 1) ^ n) most_points

-- the counts of the first n tags are at most k, and there are no others
abbrev pub point_fits : ℕ → ℕ → List ℕ → Bool
point_fits k n [] = true
point_fits k zero (c ∷ cs) = nat_eq c 0 && point_fits k zero cs
point_fits k (suc n) (c ∷ cs) = nat_le c k && point_fits k n cs

-- the first point comes before the second: at the first tag at which they differ it has the lower count
abbrev pub comes_before : List ℕ → List ℕ → Bool
comes_before [] ds = list_any (nat_lt 0) ds
comes_before (c ∷ cs) [] = false
comes_before (c ∷ cs) (d ∷ ds) = nat_lt c d || (nat_eq c d && comes_before cs ds)

-- the points are in ascending order, each once
abbrev pub points_ascend : List (List ℕ) → Bool
points_ascend [] = true
points_ascend (p ∷ []) = true
points_ascend (p ∷ q ∷ more) = comes_before p q && points_ascend (q ∷ more)

-- points of a grid of n tags with bound k
abbrev pub points_fit : ℕ → ℕ → List (List ℕ) → Bool
points_fit k n points = grid_fits k n && (list_all (point_fits k n) points && points_ascend points)

-- ---- the pattern of a set of points

-- c messages with the tag
abbrev pub tag_power : ℕ → ℕ → Pat
tag_power m zero = One
tag_power m (suc c) = prod_of (tag_power m c) (Tag m)

-- just c messages with the tag, or k and any more where c is k
abbrev pub count_pattern : ℕ → ℕ → ℕ → Pat
count_pattern k m c = if nat_lt c k then tag_power m c else prod_of (tag_power m k) (Star (Tag m))

-- the words of n tags that are cut to the point
abbrev pub point_pattern : ℕ → ℕ → Word → Pat
point_pattern k zero w = One
point_pattern k (suc n) w = prod_of (point_pattern k n w) (count_pattern k n (w n))

-- the words of the pattern, and those that are cut to one of the points
abbrev pub with_points : ℕ → ℕ → Pat → List (List ℕ) → Pat
with_points k n e [] = e
with_points k n e (p ∷ points) = with_points k n (sum_of e (point_pattern k n (counted p))) points

-- the words of n tags that are cut to one of the points
abbrev pub points_pattern : ℕ → ℕ → List (List ℕ) → Pat
points_pattern k n points = with_points k n Zero points
