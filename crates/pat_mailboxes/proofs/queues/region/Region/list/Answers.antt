use Rattle.std.proofs.Common.{List, Option, None, IsSome, [], ◌∷◌, map, get_or, refl, sym, ap, ◌∙◌, subst, arith}
use Rattle.std.proofs.lemmas.List.{map-append}
use Rattle.std.specs.Borrow.{Bor}
use Rattle.pat_mailboxes.proofs.Searching.{first_node, node_inside, next_node, value_here, more_listed, all_listed}
use Rattle.pat_mailboxes.proofs.queues.region.Region.list.Goals as goal

pub loop-init : goal.loop-init
loop-init g c =
    let m = c.args.self.now in
    let own = c.index-chain.result.now in
    (first_node m.chains m.held.items c.args.queue own c.requires.region.holding c.requires.there c.index-chain.ensures, ap (map (λ (v : Bor g.row.T.Denot). v.now)) c.new-values.ensures.items)

pub value_at-requires : goal.value_at-requires
value_at-requires g c =
    let m = c.args.self.now in
    let own = c.index-chain.result.now in
    let v = value_here m.chains m.held.items c.args.queue own c.requires.region.holding c.requires.there c.index-chain.ensures c.loop.counter c.loop.node c.loop-test.true c.loop.invariant.0 in
    subst (λ (xs : List (Option g.row.T.Denot)). IsSome (get_or xs c.loop.node None)) (sym c.as_slice.ensures.value) (subst IsSome (sym v.2) refl)

pub index-node-requires : goal.index-node-requires
index-node-requires g c =
    let m = c.args.self.now in
    let own = c.index-chain.result.now in
    let inside = node_inside m.chains m.held.items c.args.queue own c.requires.region.holding c.requires.there c.index-chain.ensures c.loop.counter c.loop.node c.loop-test.true c.loop.invariant.0 in
    let nodes = c.requires.region.holding.nodes in
    let size = m.chains.links.ok.0 in
    omega arith

pub loop-preserved : goal.loop-preserved
loop-preserved g c =
    let m = c.args.self.now in
    let own = c.index-chain.result.now in
    let now = λ (v : Bor g.row.T.Denot). v.now in
    let is = ap (λ (xs : List (Option g.row.T.Denot)). get_or xs c.loop.node None) (sym c.as_slice.ensures.value) ∙ c.value_at.ensures in (
      next_node m.chains m.held.items c.args.queue own c.requires.region.holding c.requires.there c.index-chain.ensures c.loop.counter c.loop.node c.loop-test.true c.loop.invariant.0 c.index-node.result.now c.index-node.ensures,
      ap (map now) c.in_ok-push.ensures.items ∙ map-append now c.loop.values.items (c.value_at.result ∷ [])
          ∙ more_listed m.chains m.held.items c.args.queue own c.requires.region.holding c.requires.there c.index-chain.ensures c.loop.counter c.loop.node c.loop-test.true c.loop.invariant.0 c.value_at.result.now is (map now c.loop.values.items) c.loop.invariant.1,
    )

pub returns : goal.returns
returns g c =
    let m = c.args.self.now in
    let own = c.index-chain.result.now in
    all_listed m.chains m.held.items c.args.queue own c.requires.region.holding c.requires.there c.index-chain.ensures c.loop.counter c.loop-test.false (map (λ (v : Bor g.row.T.Denot). v.now) c.loop.values.items) c.loop.invariant.1
