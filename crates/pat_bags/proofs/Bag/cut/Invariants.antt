use Rattle.std.proofs.Common.{◌≡◌, ◌<◌, ◌≤◌, ℕ, length, get_or, min}
use Rattle.pat_bags.proofs.Bag.cut.Given as goal

abbrev pub invariant-loop-t : goal.invariant-loop-t
invariant-loop-t l = record {
  done : (k : ℕ) → k < l.t → get_or l.self.counts k 0 ≡ min (get_or l.fn.self.counts k 0) l.k;
  rest : (k : ℕ) → l.t ≤ k → get_or l.self.counts k 0 ≡ get_or l.fn.self.counts k 0;
  len : length l.self.counts ≡ 32;
  old_len : length l.fn.self.counts ≡ 32;
}
