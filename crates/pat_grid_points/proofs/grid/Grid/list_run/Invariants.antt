use Rattle.std.proofs.Common.{◌≡◌, ◌++◌, map}
use Rattle.pat_bags.specs.Views.{word_of}
use Rattle.pat_inclusion_spec.specs.bounds.Numbers.{point_of}
use Rattle.pat_grid_points.specs.Views.{points_between}
use Rattle.pat_grid_points.proofs.grid.Grid.list_run.Given as goal

abbrev pub invariant-loop-number : goal.invariant-loop-number
invariant-loop-number l =
    (word_of l.bag ≡ point_of l.self.k l.self.tags l.number)
    × (map word_of l.bags ++ points_between l.self.k l.self.tags l.number l.to ≡ map word_of l.initial.bags ++ points_between l.self.k l.self.tags l.from l.to)
