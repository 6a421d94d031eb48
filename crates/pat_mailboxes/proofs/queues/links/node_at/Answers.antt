use Rattle.std.proofs.Common.{arith}
use Rattle.pat_mailboxes.proofs.NodeLaws.{walk_first, walk_inside, walk_next}
use Rattle.pat_mailboxes.proofs.queues.links.node_at.Goals as goal

pub loop-init : goal.loop-init
loop-init c = let there = c.requires.there in walk_first c.args.links.now c.args.len c.args.first (omega arith)

pub bounds-links-node : goal.bounds-links-node
bounds-links-node c =
    let there = c.requires.there in
    let test = c.loop-test.true in
    walk_inside c.args.links.now c.args.len c.args.first c.loop.counter c.loop.node c.requires.below (omega arith) c.loop.invariant

pub loop-preserved : goal.loop-preserved
loop-preserved c =
    let there = c.requires.there in
    let test = c.loop-test.true in
    walk_next c.args.links.now c.args.len c.args.first c.loop.counter c.loop.node (omega arith) c.loop.invariant
