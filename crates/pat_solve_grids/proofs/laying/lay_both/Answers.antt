use Rattle.pat_patterns.specs.Views.{pattern_view}
use Rattle.pat_grid_points.specs.symbols.Views.{symbols_view}
use Rattle.pat_solve_grids.proofs.Laid.{both_stand}
use Rattle.pat_solve_grids.proofs.laying.lay_both.Goals as goal

pub returns : goal.returns
returns c =
    both_stand (symbols_view c.args.shared.now.symbols) (symbols_view c.lay.new.self.symbols) (symbols_view c.lay-2.new.self.symbols) (pattern_view c.args.left.now) (pattern_view c.args.right.now) c.in_ok-one.one c.in_ok-other.other c.in_ok-one.ensures c.in_ok-other.ensures
