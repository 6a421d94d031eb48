use Rattle.std.proofs.Common.{drop}
use Rattle.pat_patterns.specs.Views.{patterns_view}
use Rattle.pat_grid_points.specs.symbols.Views.{symbols_view}
use Rattle.pat_grid_points.proofs.Along.{Under}
use Rattle.pat_grid_points.proofs.symbols.laying.lay_out_all.Given as goal

abbrev pub invariant-loop-p : goal.invariant-loop-p
invariant-loop-p l =
    Under (patterns_view l.system) (symbols_view l.symbols) l.roots (patterns_view (drop l.p-index l.system))
