use Rattle.pat_grid_sums.proofs.Putting.{puts_bit}
use Rattle.pat_grid_sums.proofs.bits.put.Goals as goal

pub returns : goal.returns
returns c = puts_bit c.args.words.now c.exchange.new.words c.args.word c.args.bit c.requires.word c.requires.bit c.exchange.ensures
