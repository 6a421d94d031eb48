use Rattle.pat_solve_grids.specs.Views.{findings_view}
use Rattle.pat_solve_grids.proofs.Sharing.{read_turn}
use Rattle.pat_solve_grids.proofs.batches.read_each.Goals as goal

pub loop-place-preserved : goal.loop-place-preserved
loop-place-preserved c lower rename zs ready start =
    read_turn c.args.board.now c.args.entries.now lower rename zs c.args.numbers.now c.args.from c.loop-place.place c.args.sides.now (findings_view c.loop-place.found) (findings_view c.in_ok-found.found) c.requires.within c.loop-place-test.true ready c.in_ok-found.ensures (c.loop-place.invariant lower rename zs ready start)
