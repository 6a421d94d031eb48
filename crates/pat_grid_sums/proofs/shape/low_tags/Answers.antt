use Rattle.std.proofs.Common.{arith}
use Rattle.pat_grid_sums.proofs.Splitting.{one_points, none_few}
use Rattle.pat_grid_sums.proofs.shape.low_tags.Goals as goal

pub loop-low-init : goal.loop-low-init
loop-low-init c = (omega arith, none_few c.args.k, one_points c.args.k)
