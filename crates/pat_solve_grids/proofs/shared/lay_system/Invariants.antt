use Rattle.std.proofs.Common.{take}
use Rattle.pat_patterns.specs.Views.{patterns_view}
use Rattle.pat_grid_points.specs.symbols.Views.{symbols_view}
use Rattle.pat_solve_grids.specs.Laying.{AreLaid}
use Rattle.pat_solve_grids.proofs.shared.lay_system.Given as goal

abbrev pub invariant-loop-p : goal.invariant-loop-p
invariant-loop-p l =
    AreLaid (symbols_view l.initial.shared.symbols) (symbols_view l.shared.symbols) (patterns_view (take l.p-index l.system)) l.roots
