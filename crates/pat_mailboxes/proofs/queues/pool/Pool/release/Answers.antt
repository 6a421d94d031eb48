use Rattle.std.proofs.Common.{arith}
use Rattle.pat_mailboxes.specs.queues.Pooled.{contents, spare_in}
use Rattle.pat_mailboxes.proofs.Marking.{close_seen}
use Rattle.pat_mailboxes.proofs.queues.pool.Pool.release.Goals as goal

pub index_mut-requires : goal.index_mut-requires
index_mut-requires c =
    let i = c.self.inside in
    let there = (close_seen i.marks.items (contents i.region) (spare_in i.region) c.args.queue c.args.self.now c.self.view_is c.self.invariant.1 i.closed c.requires).0 in
    let size = i.marks.ok.0 in
    omega arith

pub invariant_of-self : goal.invariant_of-self
invariant_of-self c =
    let i = c.self.inside in
    (c.self.invariant.0, (close_seen i.marks.items (contents i.region) (spare_in i.region) c.args.queue c.args.self.now c.self.view_is c.self.invariant.1 i.closed c.requires).1)

pub returns-clause-queue : goal.returns-clause-queue
returns-clause-queue c =
    let i = c.self.inside in
    (close_seen i.marks.items (contents i.region) (spare_in i.region) c.args.queue c.args.self.now c.self.view_is c.self.invariant.1 i.closed c.requires).2
