use Rattle.std.proofs.Common.{◌≡◌, ◌<◌, ◌+◌, ◌≤◌, ℕ, length, get_or}
use Rattle.pat_bags.proofs.Bag.add.Given as goal

abbrev pub invariant-loop-t : goal.invariant-loop-t
invariant-loop-t l = record {
  done : (k : ℕ) → k < l.t → get_or l.both k 0 ≡ get_or l.self.counts k 0 + get_or l.other.counts k 0;
  rest : (k : ℕ) → l.t ≤ k → get_or l.both k 0 ≡ get_or l.self.counts k 0;
  len : length l.both ≡ 32;
  self_len : length l.self.counts ≡ 32;
  other_len : length l.other.counts ≡ 32;
}
