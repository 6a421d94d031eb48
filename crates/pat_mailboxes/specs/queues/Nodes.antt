-- Nodes in a row, and how often a node stands in lists of nodes.
use Rattle.std.specs.Prelude.{◌≡◌, ℕ, zero, suc, ◌+◌, ◌<◌, cond, nat_eq, nat_lt, List, [], ◌∷◌, length, slice_index}
use Rattle.std.specs.List.{AllByRecursion}

-- n nodes, each but the first the one that the link before it leads to
abbrev pub path : List ℕ → ℕ → ℕ → List ℕ
path links zero at = []
path links (suc n) at = at ∷ path links n (slice_index links at)

abbrev pub AreBelow : ℕ → List ℕ → Type 0
AreBelow n ks = AllByRecursion (λ k. k < n) ks

-- how often a node stands in a list
abbrev pub times : ℕ → List ℕ → ℕ
times k [] = 0
times k (n ∷ ns) = cond (nat_eq k n) 1 0 + times k ns

-- the sum of a measure over lists
abbrev pub sum_over : (List ℕ → ℕ) → List (List ℕ) → ℕ
sum_over f [] = 0
sum_over f (ns ∷ nss) = f ns + sum_over f nss

-- each of the first n nodes is loose, free or at one place of one queue, and none is in two ways
pub record AreApart (n : ℕ) (loose free : List ℕ) (queues : List (List ℕ)) : Type 0 where
  pub once : (k : ℕ) → times k loose + times k free + sum_over (times k) queues ≡ cond (nat_lt k n) 1 0
  pub all : length loose + length free + sum_over length queues ≡ n
