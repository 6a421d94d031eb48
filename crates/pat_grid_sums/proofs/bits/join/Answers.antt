use Rattle.pat_grid_sums.proofs.Putting.{puts_bits}
use Rattle.pat_grid_sums.proofs.bits.join.Goals as goal

pub returns : goal.returns
returns c = puts_bits c.args.words.now c.exchange.new.words c.args.word c.args.bits c.requires c.exchange.ensures
