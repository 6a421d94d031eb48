use Rattle.std.proofs.Common.{◌≡◌, ◌<◌, ◌≤◌, ◌-◌, ◌++◌, map, drop, length, get_or, true, false}
use Rattle.pat_bags.specs.Views.{word_of}
use Rattle.pat_grid_points.specs.Views.{held_from}
use Rattle.pat_grid_points.proofs.grid.Grid.points.Given as goal

abbrev pub invariant-loop-number : goal.invariant-loop-number
invariant-loop-number l =
    (l.number ≤ length l.self.held)
    × (l.number < length l.self.held → get_or l.self.held l.number false ≡ true)
    × (map word_of l.bags ++ held_from l.self.k l.self.tags l.number (drop l.number l.self.held) ≡ held_from l.self.k l.self.tags 0 l.self.held)

abbrev pub decreases-loop-number : goal.decreases-loop-number
decreases-loop-number l = length l.self.held - l.number
