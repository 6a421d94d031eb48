use Rattle.std.proofs.Common.{◌-◌, arith}
use Rattle.pat_grid_sums.proofs.Splitting.{fewer_fit}
use Rattle.pat_grid_sums.proofs.shape.shape_of.Goals as goal

pub count_points-requires : goal.count_points-requires
count_points-requires c = fewer_fit c.args.k (c.args.tags - c.low_tags-low.result) c.args.tags (omega arith) c.requires
