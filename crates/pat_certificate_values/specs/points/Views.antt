-- Points as the definitions see them.
use Rattle.std.specs.Prelude.{ℕ, List, map}
use Rattle.pat_bags.specs.declared.Bag.{Bag}

-- a point, as the counts of all tags
abbrev pub counts_of : Bag → List ℕ
counts_of b = b.counts

abbrev pub counts_view : List Bag → List (List ℕ)
counts_view bags = map counts_of bags
