use Rattle.std.proofs.Common.{◌≡◌, ◌<◌, ◌≤◌, ◌-◌, ℕ, true, false, length, get_or}
use Rattle.pat_grid_points.proofs.grid.Grid.missing.Given as goal

abbrev pub invariant-loop-number : goal.invariant-loop-number
invariant-loop-number l =
    (l.number ≤ length l.self.held)
    × (l.number < length l.self.held → get_or l.self.held l.number false ≡ true)
    × ((c : ℕ) → c < l.number → get_or l.self.held c false ≡ true → get_or l.other.held c false ≡ true)

abbrev pub decreases-loop-number : goal.decreases-loop-number
decreases-loop-number l = length l.self.held - l.number
