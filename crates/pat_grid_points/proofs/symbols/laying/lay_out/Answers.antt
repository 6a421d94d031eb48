use Rattle.pat_patterns.specs.Views.{pattern_view}
use Rattle.pat_grid_points.specs.symbols.Views.{symbols_view, var_symbol}
use Rattle.pat_grid_points.proofs.Along.{begun}
use Rattle.pat_grid_points.proofs.symbols.laying.lay_out.Goals as goal

pub loop-head-init : goal.loop-head-init
loop-head-init c =
    begun (var_symbol c.args.role) (pattern_view c.args.p.now) c.in_ok-heads.heads (symbols_view c.args.symbols.now) c.new-numbers.result c.in_ok-heads.ensures c.new-numbers.ensures
