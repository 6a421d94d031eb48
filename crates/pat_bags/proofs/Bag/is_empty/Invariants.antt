use Rattle.std.proofs.Common.{◌≡◌, ◌<◌, ℕ, length, get_or}
use Rattle.pat_bags.proofs.Bag.is_empty.Given as goal

abbrev pub invariant-loop-t : goal.invariant-loop-t
invariant-loop-t l = record {
  done : (k : ℕ) → k < l.t → get_or l.self.counts k 0 ≡ 0;
  len : length l.self.counts ≡ 32;
}
