use Rattle.pat_grid_points.proofs.Digits.{none_written, next_written}
use Rattle.pat_grid_points.proofs.numbers.bag_of.Goals as goal

pub loop-tag-init : goal.loop-tag-init
loop-tag-init c = none_written c.args.k c.args.tags c.args.number c.requires

pub loop-tag-preserved : goal.loop-tag-preserved
loop-tag-preserved c =
    next_written c.args.k c.args.tags c.args.number c.loop-tag.tag c.loop-tag.rest c.loop-tag.counts c.loop-tag-test.true c.loop-tag.invariant
