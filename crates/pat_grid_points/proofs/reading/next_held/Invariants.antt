use Rattle.std.proofs.Common.{◌≡◌, ◌<◌, ◌≤◌, ◌-◌, ℕ, false, length, get_or}
use Rattle.pat_grid_points.proofs.reading.next_held.Given as goal

abbrev pub invariant-loop-number : goal.invariant-loop-number
invariant-loop-number l =
    (l.from ≤ l.number) × (l.number ≤ length l.held) × ((c : ℕ) → l.from ≤ c → c < l.number → get_or l.held c false ≡ false)

abbrev pub decreases-loop-number : goal.decreases-loop-number
decreases-loop-number l = length l.held - l.number
