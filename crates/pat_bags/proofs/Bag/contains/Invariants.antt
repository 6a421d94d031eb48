use Rattle.std.proofs.Common.{◌≡◌, ◌<◌, ◌≤◌, ℕ, length, get_or}
use Rattle.pat_bags.proofs.Bag.contains.Given as goal

abbrev pub invariant-loop-t : goal.invariant-loop-t
invariant-loop-t l = record {
  done : (k : ℕ) → k < l.t → get_or l.other.counts k 0 ≤ get_or l.self.counts k 0;
  other_len : length l.other.counts ≡ 32;
}
