use Rattle.std.proofs.Common.{◌-◌, [], arith}
use Rattle.pat_mailboxes.specs.queues.Chained.{queue_nodes}
use Rattle.pat_mailboxes.proofs.ChainLaws.{chain_is, is_queue}
use Rattle.pat_mailboxes.proofs.Linking.{own_length, own_fits, queue_is_node, unlinked_node, unlinked_at}
use Rattle.pat_mailboxes.proofs.queues.chains.Chains.unlink_behind.Goals as goal

pub index-node-requires : goal.index-node-requires
index-node-requires c =
    let m = c.args.self.now in
    let there = c.requires.there in
    let inside = queue_is_node m.links.items m.first_free m.spare m.queues.items c.args.queue (c.args.place - 1) (omega arith) [] c.requires.chained in
    let before = c.requires.before in
    let size = m.links.ok.0 in
    omega arith

pub index-next-requires : goal.index-next-requires
index-next-requires c =
    let m = c.args.self.now in
    let own = c.index-chain.result.now in
    let is = chain_is m.links.items m.queues.items c.args.queue own (is_queue (queue_nodes m) c.args.queue (let behind = c.requires.behind in let there = c.requires.there in omega arith)) c.index-chain.ensures in
    let inside = unlinked_node m.links.items m.first_free m.spare m.queues.items c.args.queue own is c.args.place c.args.before c.index-node.result.now c.requires.behind c.requires.there c.requires.before c.index-node.ensures c.requires.chained in
    let size = m.links.ok.0 in
    omega arith

pub index_mut-requires : goal.index_mut-requires
index_mut-requires c =
    let m = c.args.self.now in
    let there = c.requires.there in
    let inside = queue_is_node m.links.items m.first_free m.spare m.queues.items c.args.queue (c.args.place - 1) (omega arith) [] c.requires.chained in
    let before = c.requires.before in
    let size = m.links.ok.0 in
    omega arith

pub overflow_add-place : goal.overflow_add-place
overflow_add-place c =
    let m = c.args.self.now in
    let own = c.index-chain.result.now in
    let is = chain_is m.links.items m.queues.items c.args.queue own (is_queue (queue_nodes m) c.args.queue (let behind = c.requires.behind in let there = c.requires.there in omega arith)) c.index-chain.ensures in
    let size = own_length m.links.items m.first_free m.spare m.queues.items c.args.queue own is in
    let fits = own_fits m.links.items m.first_free m.spare m.queues.items c.args.queue own is [] c.requires.chained in
    let there = c.requires.there in
    omega arith

pub overflow_sub-chain : goal.overflow_sub-chain
overflow_sub-chain c =
    let m = c.args.self.now in
    let own = c.index-chain.result.now in
    let is = chain_is m.links.items m.queues.items c.args.queue own (is_queue (queue_nodes m) c.args.queue (let behind = c.requires.behind in let there = c.requires.there in omega arith)) c.index-chain.ensures in
    let size = own_length m.links.items m.first_free m.spare m.queues.items c.args.queue own is in
    let there = c.requires.there in
    omega arith

pub returns-clause-chained : goal.returns-clause-chained
returns-clause-chained c =
    let m = c.args.self.now in
    let own = c.index-chain.result.now in
    let is = chain_is m.links.items m.queues.items c.args.queue own (is_queue (queue_nodes m) c.args.queue (let behind = c.requires.behind in let there = c.requires.there in omega arith)) c.index-chain.ensures in
    (unlinked_at m.links.items m.first_free m.spare m.queues.items c.args.queue own is c.args.place c.args.before c.index-node.result.now c.index-next.result.now c.last_of-last.result c.requires.behind c.requires.there c.requires.before c.index-node.ensures c.index-next.ensures c.last_of-last.ensures c.requires.chained).0

pub returns-clause-node : goal.returns-clause-node
returns-clause-node c =
    let m = c.args.self.now in
    let own = c.index-chain.result.now in
    let is = chain_is m.links.items m.queues.items c.args.queue own (is_queue (queue_nodes m) c.args.queue (let behind = c.requires.behind in let there = c.requires.there in omega arith)) c.index-chain.ensures in
    (unlinked_at m.links.items m.first_free m.spare m.queues.items c.args.queue own is c.args.place c.args.before c.index-node.result.now c.index-next.result.now c.last_of-last.result c.requires.behind c.requires.there c.requires.before c.index-node.ensures c.index-next.ensures c.last_of-last.ensures c.requires.chained).1

pub returns-clause-queues : goal.returns-clause-queues
returns-clause-queues c =
    let m = c.args.self.now in
    let own = c.index-chain.result.now in
    let is = chain_is m.links.items m.queues.items c.args.queue own (is_queue (queue_nodes m) c.args.queue (let behind = c.requires.behind in let there = c.requires.there in omega arith)) c.index-chain.ensures in
    (unlinked_at m.links.items m.first_free m.spare m.queues.items c.args.queue own is c.args.place c.args.before c.index-node.result.now c.index-next.result.now c.last_of-last.result c.requires.behind c.requires.there c.requires.before c.index-node.ensures c.index-next.ensures c.last_of-last.ensures c.requires.chained).2
