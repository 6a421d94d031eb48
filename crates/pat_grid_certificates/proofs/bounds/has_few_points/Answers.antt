use Rattle.std.proofs.Common.{◌+◌, arith, mul-le-mul_right}
use Rattle.pat_grid_certificates.proofs.FewPoints.{too_many}
use Rattle.pat_grid_certificates.proofs.bounds.has_few_points.Goals as goal

pub overflow_mul-points : goal.overflow_mul-points
overflow_mul-points c =
    let l = mul-le-mul_right (c.args.k + 1) c.loop-counted.invariant.few in
    omega arith

pub returns-then-points-gt-MOST_POINTS : goal.returns-then-points-gt-MOST_POINTS
returns-then-points-gt-MOST_POINTS c =
    too_many c.args.k c.args.tags c.loop-counted.counted c.loop-counted.points (omega arith) c.loop-counted.invariant.number (omega arith)
