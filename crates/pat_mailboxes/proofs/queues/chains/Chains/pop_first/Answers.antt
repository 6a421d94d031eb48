use Rattle.std.proofs.Common.{[], arith}
use Rattle.pat_mailboxes.specs.queues.Chained.{queue_nodes}
use Rattle.pat_mailboxes.proofs.ChainLaws.{chain_is, is_queue}
use Rattle.pat_mailboxes.proofs.Linking.{own_length, first_of_queue, popped_first}
use Rattle.pat_mailboxes.proofs.queues.chains.Chains.pop_first.Goals as goal

pub index-next-requires : goal.index-next-requires
index-next-requires c =
    let m = c.args.self.now in
    let own = c.index-chain.result.now in
    let is = chain_is m.links.items m.queues.items c.args.queue own (is_queue (queue_nodes m) c.args.queue c.requires.there) c.index-chain.ensures in
    let size = own_length m.links.items m.first_free m.spare m.queues.items c.args.queue own is in
    let there = c.requires.there in
    let inside = first_of_queue m.links.items m.first_free m.spare m.queues.items c.args.queue own is [] c.requires.chained (omega arith) in
    let sizes = m.links.ok.0 in
    omega arith

pub returns-clause-chained : goal.returns-clause-chained
returns-clause-chained c =
    let m = c.args.self.now in
    let own = c.index-chain.result.now in
    let is = chain_is m.links.items m.queues.items c.args.queue own (is_queue (queue_nodes m) c.args.queue c.requires.there) c.index-chain.ensures in
    (popped_first m.links.items m.first_free m.spare m.queues.items c.args.queue own is c.index-next.result.now c.requires.there c.index-next.ensures c.requires.chained).0

pub returns-clause-node : goal.returns-clause-node
returns-clause-node c =
    let m = c.args.self.now in
    let own = c.index-chain.result.now in
    let is = chain_is m.links.items m.queues.items c.args.queue own (is_queue (queue_nodes m) c.args.queue c.requires.there) c.index-chain.ensures in
    (popped_first m.links.items m.first_free m.spare m.queues.items c.args.queue own is c.index-next.result.now c.requires.there c.index-next.ensures c.requires.chained).1

pub returns-clause-queues : goal.returns-clause-queues
returns-clause-queues c =
    let m = c.args.self.now in
    let own = c.index-chain.result.now in
    let is = chain_is m.links.items m.queues.items c.args.queue own (is_queue (queue_nodes m) c.args.queue c.requires.there) c.index-chain.ensures in
    (popped_first m.links.items m.first_free m.spare m.queues.items c.args.queue own is c.index-next.result.now c.requires.there c.index-next.ensures c.requires.chained).2
