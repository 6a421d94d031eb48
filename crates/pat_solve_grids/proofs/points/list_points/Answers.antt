use Rattle.pat_solve_grids.proofs.PointLists.{listed_turn}
use Rattle.pat_solve_grids.proofs.points.list_points.Goals as goal

pub loop-grid-preserved : goal.loop-grid-preserved
loop-grid-preserved c =
    listed_turn c.args.grids.now c.loop-grid.grid-index c.loop-grid.lists c.push.new.self c.grid-item.result c.in_ok-points.points c.loop-grid-test.true c.grid-item.is c.loop-grid.invariant (record { all = c.in_ok-points.ensures.all; ascend = c.in_ok-points.ensures.ascend }) c.in_ok-push.ensures.ok
