use Rattle.pat_grid_sums.specs.Sets.{IsShiftedAny}
use Rattle.pat_grid_sums.proofs.Putting.{puts_more}
use Rattle.pat_grid_sums.proofs.moving.move_all.Goals as goal

pub loop-by-preserved : goal.loop-by-preserved
loop-by-preserved c =
    puts_more (IsShiftedAny c.args.others.now c.args.masks.now) c.loop-by.by c.args.moved.now c.loop-by.moved c.move_by.new.moved c.loop-by.invariant c.move_by.ensures
