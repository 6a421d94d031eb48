use Rattle.pat_mailboxes.specs.queues.Pooled.{contents, spare_in}
use Rattle.pat_mailboxes.proofs.Marking.{live_seen}
use Rattle.pat_mailboxes.proofs.Serving.{sought_seen, taken_seen}
use Rattle.pat_mailboxes.proofs.queues.pool.Pool.take.Goals as goal

pub take_in-requires-clause-fits : goal.take_in-requires-clause-fits
take_in-requires-clause-fits c = let i = c.self.inside in (live_seen i.marks.items (contents i.region) (spare_in i.region) c.args.queue c.args.self.now c.self.view_is c.self.invariant.1 c.requires.live).2

pub take_in-requires-clause-there : goal.take_in-requires-clause-there
take_in-requires-clause-there c =
    let i = c.self.inside in
    sought_seen i.marks.items (contents i.region) (spare_in i.region) c.args.queue c.args.self.now c.self.view_is c.self.invariant.1 c.requires.live c.args.tag c.args.number c.requires.there

pub invariant_of-self : goal.invariant_of-self
invariant_of-self c =
    let i = c.self.inside in
    (c.take_in.ensures.region, (taken_seen i.marks.items (contents i.region) (spare_in i.region) c.args.queue c.args.self.now c.self.view_is c.self.invariant.1 c.requires.live c.args.tag c.take_in.result (contents c.take_in.new.region) c.take_in.ensures.contents).0)

pub returns-clause-queue : goal.returns-clause-queue
returns-clause-queue c =
    let i = c.self.inside in
    (taken_seen i.marks.items (contents i.region) (spare_in i.region) c.args.queue c.args.self.now c.self.view_is c.self.invariant.1 c.requires.live c.args.tag c.take_in.result (contents c.take_in.new.region) c.take_in.ensures.contents).1
