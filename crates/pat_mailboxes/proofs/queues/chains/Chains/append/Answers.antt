use Rattle.std.proofs.Common.{◌≢◌, ◌∷◌, [], arith}
use Rattle.pat_mailboxes.proofs.ChainLaws.{chain_is}
use Rattle.pat_mailboxes.proofs.Linking.{last_is_node, own_fits, appended_first, appended_behind}
use Rattle.pat_mailboxes.proofs.queues.chains.Chains.append.Goals as goal

pub index_mut-requires-else-chain-eq0 : goal.index_mut-requires-else-chain-eq0
index_mut-requires-else-chain-eq0 c =
    let m = c.args.self.now in
    let own = c.index-chain.result.now in
    let is = chain_is m.links.items m.queues.items c.args.queue own c.requires.there c.index-chain.ensures in
    let ne : own.len ≢ 0 = c.if-chain-eq0.false in
    let there = last_is_node m.links.items m.first_free m.spare m.queues.items c.args.queue own is (omega arith) (c.args.node ∷ []) c.requires.chained in
    let size = m.links.ok.0 in
    omega arith

pub overflow_add-chain : goal.overflow_add-chain
overflow_add-chain c =
    let m = c.args.self.now in
    let own = c.index-chain.result.now in
    let is = chain_is m.links.items m.queues.items c.args.queue own c.requires.there c.index-chain.ensures in
    let fits = own_fits m.links.items m.first_free m.spare m.queues.items c.args.queue own is (c.args.node ∷ []) c.requires.chained in
    omega arith

pub returns-then-chain-eq0-clause-chained : goal.returns-then-chain-eq0-clause-chained
returns-then-chain-eq0-clause-chained c =
    let m = c.args.self.now in
    let own = c.index-chain.result.now in
    let is = chain_is m.links.items m.queues.items c.args.queue own c.requires.there c.index-chain.ensures in
    (appended_first m.links.items m.first_free m.spare m.queues.items c.args.queue own is c.args.node c.requires.there c.if-chain-eq0.true c.requires.chained).0

pub returns-then-chain-eq0-clause-queues : goal.returns-then-chain-eq0-clause-queues
returns-then-chain-eq0-clause-queues c =
    let m = c.args.self.now in
    let own = c.index-chain.result.now in
    let is = chain_is m.links.items m.queues.items c.args.queue own c.requires.there c.index-chain.ensures in
    (appended_first m.links.items m.first_free m.spare m.queues.items c.args.queue own is c.args.node c.requires.there c.if-chain-eq0.true c.requires.chained).1

pub returns-else-chain-eq0-clause-chained : goal.returns-else-chain-eq0-clause-chained
returns-else-chain-eq0-clause-chained c =
    let m = c.args.self.now in
    let own = c.index-chain.result.now in
    let is = chain_is m.links.items m.queues.items c.args.queue own c.requires.there c.index-chain.ensures in
    let ne : own.len ≢ 0 = c.if-chain-eq0.false in
    (appended_behind m.links.items m.first_free m.spare m.queues.items c.args.queue own is c.args.node c.requires.there (omega arith) c.requires.chained).0

pub returns-else-chain-eq0-clause-queues : goal.returns-else-chain-eq0-clause-queues
returns-else-chain-eq0-clause-queues c =
    let m = c.args.self.now in
    let own = c.index-chain.result.now in
    let is = chain_is m.links.items m.queues.items c.args.queue own c.requires.there c.index-chain.ensures in
    let ne : own.len ≢ 0 = c.if-chain-eq0.false in
    (appended_behind m.links.items m.first_free m.spare m.queues.items c.args.queue own is c.args.node c.requires.there (omega arith) c.requires.chained).1
