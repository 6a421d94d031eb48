use Rattle.std.proofs.Common.{take, sym}
use Rattle.pat_input.proofs.reading.read_piece.Goals as goal

pub returns-in_default-clause-count : goal.returns-in_default-clause-count
returns-in_default-clause-count g c = (take c.in_ok-count.count c.read.new.buf, c.in_ok-count.ensures.bytes.0, c.in_default.ensures.read, sym c.in_ok-count.ensures.bound.1)
