use Rattle.std.proofs.Common.{◌≡◌, ◌<◌, ℕ, get_or}
use Rattle.pat_grid_points.proofs.blocks.next_begun.Given as goal

abbrev pub invariant-loop-next : goal.invariant-loop-next
invariant-loop-next l = (l.block < l.next) × ((a : ℕ) → l.block < a → a < l.next → get_or l.starts a 0 ≡ 0)
