use Rattle.std.proofs.Common.{◌≡◌, ℕ, ◌+◌, ◌*◌, ◌/◌, ◌%◌, length}
use Rattle.pat_grid_points.specs.Views.{summed}
use Rattle.pat_grid_sums.specs.Shapes.{FilledTo}
use Rattle.pat_grid_sums.proofs.rows.put_digits.Given as goal

abbrev pub invariant-loop-other : goal.invariant-loop-other
invariant-loop-other l =
    (length l.row ≡ length l.initial.row)
    × ((n v made : ℕ) → l.above ≡ summed l.k n (v / (l.k + 1)) made → l.digit ≡ v % (l.k + 1) → l.from ≡ made * (l.k + 1) → FilledTo l.k (n + 1) v (made * (l.k + 1)) l.initial.row → FilledTo l.k (n + 1) v (made * (l.k + 1) + l.other) l.row)
