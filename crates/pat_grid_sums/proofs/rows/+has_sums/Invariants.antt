use Rattle.std.proofs.Common.{ℕ, ◌+◌, ◌-◌, ◌*◌, ◌/◌, ◌%◌, ◌<◌, ◌≤◌}
use Rattle.pat_grid_sums.specs.Shapes.{HasSums}
use Rattle.pat_grid_sums.proofs.rows.+has_sums.Given as goal

abbrev pub invariant-loop-digit : goal.invariant-loop-digit
invariant-loop-digit l =
    (l.point % (l.k + 1) ≤ l.digit)
    × ((o : ℕ) → l.point % (l.k + 1) ≤ o → o < l.digit → HasSums l.k (l.tags - 1) (l.point / (l.k + 1)) l.words (l.bits) (l.from + o * l.scale) (l.scale * (l.k + 1)))

abbrev pub decreases-has_sums : goal.decreases-has_sums
decreases-has_sums l = l.tags
