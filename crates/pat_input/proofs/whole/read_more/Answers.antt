use Rattle.std.proofs.Common.{take, sym}
use Rattle.pat_input.proofs.whole.read_more.Goals as goal

pub returns-in-Ok-clause-count : goal.returns-in-Ok-clause-count
returns-in-Ok-clause-count g c = (take c.in_ok-count.count c.read.new.buf, c.in_ok-count.ensures.bytes.0, c.in-Ok.ensures.items, sym c.in_ok-count.ensures.bound.1)
