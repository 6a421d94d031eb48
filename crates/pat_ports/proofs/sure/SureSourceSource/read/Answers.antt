use Rattle.std.proofs.Common.{ap, sym}
use Rattle.pat_ports.proofs.Copied.{consumed, tail}
use Rattle.pat_ports.proofs.sure.SureSourceSource.read.Goals as goal

pub returns-clause-bytes : goal.returns-clause-bytes
returns-clause-bytes c = consumed _ c.self.inside.bytes.items _ c.args.buf.now c.copy_front-count.new.to c.self.inside.at c.self.inside.piece c.copy_front-count.result (ap (λ s. s.rest) (sym c.self.view_is)) (tail _ _ c.self.inside.at c.as_slice.ensures.value) c.self.invariant.1 c.copy_front-count.ensures.count c.copy_front-count.auto.to c.copy_front-count.ensures.copied
