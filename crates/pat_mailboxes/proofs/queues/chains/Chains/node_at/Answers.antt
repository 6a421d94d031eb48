use Rattle.std.proofs.Common.{[], sym, ap, ◌∙◌, subst, arith, slice_index, length, List, ℕ}
use Rattle.pat_mailboxes.specs.queues.Chained.{queue_nodes}
use Rattle.std.proofs.lemmas.List.{length-map}
use Rattle.pat_mailboxes.specs.queues.Chained.{nodes_of}
use Rattle.pat_mailboxes.specs.queues.Nodes.{path, AreBelow}
use Rattle.pat_mailboxes.proofs.ChainLaws.{chain_is, is_queue}
use Rattle.pat_mailboxes.proofs.Linking.{own_length, own_nodes, own_fits, own_below, last_at}
use Rattle.pat_mailboxes.proofs.queues.chains.Chains.node_at.Goals as goal

pub index-chain-requires : goal.index-chain-requires
index-chain-requires c =
    let m = c.args.self.now in
    let there = c.requires.there in
    let q = is_queue (queue_nodes m) c.args.queue (omega arith) in
    let size = length-map m.queues.items (nodes_of m.links.items) in
    let sizes = m.queues.ok.0 in
    omega arith

pub overflow_add-place : goal.overflow_add-place
overflow_add-place c =
    let m = c.args.self.now in
    let own = c.index-chain.result.now in
    let there = c.requires.there in
    let is = chain_is m.links.items m.queues.items c.args.queue own (is_queue (queue_nodes m) c.args.queue (omega arith)) c.index-chain.ensures in
    let size = own_length m.links.items m.first_free m.spare m.queues.items c.args.queue own is in
    let fits = own_fits m.links.items m.first_free m.spare m.queues.items c.args.queue own is [] c.requires.chained in
    omega arith

pub returns-then-place-chain : goal.returns-then-place-chain
returns-then-place-chain c =
    let m = c.args.self.now in
    let own = c.index-chain.result.now in
    let there = c.requires.there in
    let is = chain_is m.links.items m.queues.items c.args.queue own (is_queue (queue_nodes m) c.args.queue (omega arith)) c.index-chain.ensures in
    last_at m.links.items m.first_free m.spare m.queues.items c.args.queue own is c.args.place [] c.requires.chained c.if-place-chain.true

pub node_at-requires-clause-there : goal.node_at-requires-clause-there
node_at-requires-clause-there c =
    let m = c.args.self.now in
    let own = c.index-chain.result.now in
    let there = c.requires.there in
    let is = chain_is m.links.items m.queues.items c.args.queue own (is_queue (queue_nodes m) c.args.queue (omega arith)) c.index-chain.ensures in
    let size = own_length m.links.items m.first_free m.spare m.queues.items c.args.queue own is in
    omega arith

pub node_at-requires-clause-below : goal.node_at-requires-clause-below
node_at-requires-clause-below c =
    let m = c.args.self.now in
    let own = c.index-chain.result.now in
    let there = c.requires.there in
    let is = chain_is m.links.items m.queues.items c.args.queue own (is_queue (queue_nodes m) c.args.queue (omega arith)) c.index-chain.ensures in
    subst (λ (ls : List ℕ). AreBelow (length ls) (path ls own.len own.first)) (sym c.as_slice.ensures.value) (own_below m.links.items m.first_free m.spare m.queues.items c.args.queue own is [] c.requires.chained)

pub returns : goal.returns
returns c =
    let m = c.args.self.now in
    let own = c.index-chain.result.now in
    let there = c.requires.there in
    let is = chain_is m.links.items m.queues.items c.args.queue own (is_queue (queue_nodes m) c.args.queue (omega arith)) c.index-chain.ensures in
    c.node_at.ensures
    ∙ ap (λ (ls : List ℕ). slice_index (path ls own.len own.first) c.args.place) c.as_slice.ensures.value
    ∙ ap (λ (ns : List ℕ). slice_index ns c.args.place) (sym (own_nodes m.links.items m.first_free m.spare m.queues.items c.args.queue own is))
