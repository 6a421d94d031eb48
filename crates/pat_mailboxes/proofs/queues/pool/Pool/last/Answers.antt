use Rattle.std.proofs.Common.{sym, ap, ◌∙◌}
use Rattle.pat_mailboxes.specs.queues.Lanes.{last_of}
use Rattle.pat_mailboxes.specs.queues.Pooled.{contents, spare_in}
use Rattle.pat_mailboxes.proofs.Marking.{live_seen}
use Rattle.pat_mailboxes.proofs.queues.pool.Pool.last.Goals as goal

pub last_in-requires-clause-there : goal.last_in-requires-clause-there
last_in-requires-clause-there c = let i = c.self.inside in (live_seen i.marks.items (contents i.region) (spare_in i.region) c.args.queue c.args.self.now c.self.view_is c.self.invariant.1 c.requires).1

pub last_in-requires-clause-fits : goal.last_in-requires-clause-fits
last_in-requires-clause-fits c = let i = c.self.inside in (live_seen i.marks.items (contents i.region) (spare_in i.region) c.args.queue c.args.self.now c.self.view_is c.self.invariant.1 c.requires).2

pub returns : goal.returns
returns c =
    let i = c.self.inside in
    c.last_in.ensures ∙ ap last_of (sym (live_seen i.marks.items (contents i.region) (spare_in i.region) c.args.queue c.args.self.now c.self.view_is c.self.invariant.1 c.requires).3)
