use Rattle.pat_grid_sums.specs.Sets.{AtNumber}
use Rattle.pat_grid_sums.proofs.Putting.{puts_begun, puts_more}
use Rattle.pat_grid_sums.proofs.bits.put_all.Goals as goal

pub loop-number-init : goal.loop-number-init
loop-number-init c = puts_begun (AtNumber c.args.numbers.now c.args.width) c.args.words.now

pub loop-number-preserved : goal.loop-number-preserved
loop-number-preserved c =
    puts_more (AtNumber c.args.numbers.now c.args.width) c.loop-number.number-index c.args.words.now c.loop-number.words c.put.new.words c.loop-number.invariant c.put.ensures
