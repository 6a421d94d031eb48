use Rattle.std.proofs.Common.{refl}
use Rattle.pat_mailboxes.specs.queues.Pooled.{contents, spare_in}
use Rattle.pat_mailboxes.proofs.Marking.{live_seen}
use Rattle.pat_mailboxes.proofs.Serving.{pushed_seen}
use Rattle.pat_mailboxes.proofs.queues.pool.Pool.push_back.Goals as goal

pub push_in-requires-clause-there : goal.push_in-requires-clause-there
push_in-requires-clause-there c = let i = c.self.inside in (live_seen i.marks.items (contents i.region) (spare_in i.region) c.args.queue c.args.self.now c.self.view_is c.self.invariant.1 c.requires.live).1

pub push_in-requires-clause-fits : goal.push_in-requires-clause-fits
push_in-requires-clause-fits c = let i = c.self.inside in (live_seen i.marks.items (contents i.region) (spare_in i.region) c.args.queue c.args.self.now c.self.view_is c.self.invariant.1 c.requires.live).2

pub invariant_of-self : goal.invariant_of-self
invariant_of-self c =
    let i = c.self.inside in
    (c.push_in.ensures.region, (pushed_seen i.marks.items (contents i.region) (spare_in i.region) c.args.queue c.args.self.now c.self.view_is c.self.invariant.1 c.requires.live c.args.message.tag c.args.message refl c.requires.last (contents c.push_in.new.region) c.push_in.ensures.contents).0)

pub returns-clause-queue : goal.returns-clause-queue
returns-clause-queue c =
    let i = c.self.inside in
    (pushed_seen i.marks.items (contents i.region) (spare_in i.region) c.args.queue c.args.self.now c.self.view_is c.self.invariant.1 c.requires.live c.args.message.tag c.args.message refl c.requires.last (contents c.push_in.new.region) c.push_in.ensures.contents).1
