use Rattle.std.proofs.Common.{◌-◌, ◌^◌, min, arith, ◌<◌}
use Rattle.pat_solve_bounds.specs.lower_bounds.Sides.{sides_list}
use Rattle.pat_solve_bounds.specs.renumbered.Systems.{picked}
use Rattle.pat_solve_grids.specs.Rights.{greatest}
use Rattle.pat_solve_grids.proofs.Degrees.{greatest_end}
use Rattle.pat_solve_grids.proofs.bounds.greatest_degree.Goals as goal

pub returns : goal.returns
returns c =
    let zs = sides_list c.args.constraints.now in
    let most = c.loop-number.invariant.0 in
    let fits : c.loop-number.most < 2 ^ 32 = omega (arith, most) in
    greatest_end zs c.args.numbers.now c.loop-number.number-index c.loop-number.most (min (greatest (picked zs c.args.numbers.now)) (2 ^ 32 - 1)) c.loop-number-test.false fits c.loop-number.invariant.1
