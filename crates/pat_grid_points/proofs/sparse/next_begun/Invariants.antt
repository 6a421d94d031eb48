use Rattle.std.proofs.Common.{◌≡◌, ◌<◌, ◌-◌, ℕ, get_or, length}
use Rattle.pat_grid_points.proofs.sparse.next_begun.Given as goal

abbrev pub invariant-loop-next : goal.invariant-loop-next
invariant-loop-next l = (l.block < l.next) × ((a : ℕ) → l.block < a → a < l.next → get_or l.starts a 0 ≡ 0)

abbrev pub decreases-loop-next : goal.decreases-loop-next
decreases-loop-next l = length l.starts - l.next
