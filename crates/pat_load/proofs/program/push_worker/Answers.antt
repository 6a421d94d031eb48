use Rattle.std.proofs.Common.{codes}
use Rattle.pat_load.specs.LoadText.{numbered}
use Rattle.pat_load.proofs.Split.{followed}
use Rattle.pat_load.proofs.program.push_worker.Goals as goal

pub returns : goal.returns
returns c =
    followed c.args.text.now.items c.push_numbered.new.text.items c.extend_from_slice.new.self.items (numbered (codes "def w") c.args.number)
    (codes "(self: Work?): Unit { guard self : Job { receive Job(x, to) from self -> free(self); to ! Part(x * 3 + 1) } } ")
    c.in_ok-push_numbered.ensures c.in_ok-extend_from_slice.ensures.items
