use Rattle.std.proofs.Common.{◌-◌, [], get_or, sym, ◌∙◌, arith}
use Rattle.pat_mailboxes.specs.queues.Pooled.{contents}
use Rattle.pat_mailboxes.proofs.LaneLoops.{last_at, last_none}
use Rattle.pat_mailboxes.proofs.queues.lanes.last_of.Goals as goal

pub returns-then-count-eq0 : goal.returns-then-count-eq0
returns-then-count-eq0 c = last_none (get_or (contents c.args.region.now) c.args.chain []) (sym c.len-count.ensures ∙ c.if-count-eq0.true)

pub returns : goal.returns
returns c =
    let count = c.len-count.ensures in
    let some = c.if-count-eq0.false in
    last_at (get_or (contents c.args.region.now) c.args.chain []) _ c.get.result.now (omega arith) c.get.ensures
