use Rattle.std.proofs.Common.{◌*◌, ◌-◌, arith}
use Rattle.pat_grid_points.proofs.Ascending.{number_at}
use Rattle.pat_grid_points.proofs.making.run_at.Goals as goal

pub loop-run-preserved : goal.loop-run-preserved
loop-run-preserved c =
    let run = c.loop-run.run in
    let more = c.loop-run-test.true in
    let some = c.loop-run.invariant.0 in
    let far = c.saturating_sub.ensures in
    let same = c.if-saturating_sub-last.false in
    let last = number_at c.args.k c.args.tags c.args.points.now (run * 2 - 1) c.number_of.result _ (omega arith) c.number_of.ensures in
    (omega arith, omega arith, omega arith)
