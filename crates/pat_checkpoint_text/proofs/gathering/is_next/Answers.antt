use Rattle.std.proofs.Common.{length, ◌-◌, arith}
use Rattle.pat_checkpoint_text.proofs.Orders.{above_last}
use Rattle.pat_checkpoint_text.proofs.gathering.is_next.Goals as goal

pub returns-in-len1-up : goal.returns-in-len1-up
returns-in-len1-up c = above_last c.args.numbers.now (length c.args.numbers.now - 1) c.args.number (omega arith)
