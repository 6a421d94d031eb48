use Rattle.std.proofs.Common.{List, Option, None, IsSome, get_or, arith, refl, sym, ap, subst, ◌∙◌}
use Rattle.pat_reduce.specs.declared.threads.state.Message.{Message}
use Rattle.pat_mailboxes.proofs.Searching.{first_node, node_inside, value_here, search_found, next_node, search_none, search_end}
use Rattle.pat_mailboxes.proofs.queues.lanes.find_in.Goals as goal

pub loop-place-init : goal.loop-place-init
loop-place-init g c =
    let m = c.args.region.now in
    let own = c.index-nodes.result.now in
    (first_node m.chains m.held.items c.args.chain own c.requires.region.holding c.requires.there c.index-nodes.ensures, tt)

pub value_at-message-requires : goal.value_at-message-requires
value_at-message-requires g c =
    let m = c.args.region.now in
    let own = c.index-nodes.result.now in
    let v = value_here m.chains m.held.items c.args.chain own c.requires.region.holding c.requires.there c.index-nodes.ensures c.loop-place.place c.loop-place.node c.loop-place-test.true c.loop-place.invariant.0 in
    subst (λ (xs : List (Option Message)). IsSome (get_or xs c.loop-place.node None)) (sym c.as_slice.ensures.value) (subst IsSome (sym v.2) refl)

pub returns-then-passes : goal.returns-then-passes
returns-then-passes g c =
    let m = c.args.region.now in
    let own = c.index-nodes.result.now in
    let is = ap (λ (xs : List (Option Message)). get_or xs c.loop-place.node None) (sym c.as_slice.ensures.value) ∙ c.value_at-message.ensures in
    search_found m.chains m.held.items c.args.chain own c.requires.region.holding c.requires.there c.index-nodes.ensures c.loop-place.place c.loop-place.node c.loop-place-test.true c.loop-place.invariant.0 (g.P.Test.passes c.args.test.now) c.value_at-message.result.now is c.loop-place.invariant.1 (sym c.passes.ensures ∙ c.if-passes.true)

pub index-node-requires : goal.index-node-requires
index-node-requires g c =
    let m = c.args.region.now in
    let own = c.index-nodes.result.now in
    let inside = node_inside m.chains m.held.items c.args.chain own c.requires.region.holding c.requires.there c.index-nodes.ensures c.loop-place.place c.loop-place.node c.loop-place-test.true c.loop-place.invariant.0 in
    let nodes = c.requires.region.holding.nodes in
    let size = m.chains.links.ok.0 in
    omega arith

pub loop-place-preserved : goal.loop-place-preserved
loop-place-preserved g c =
    let m = c.args.region.now in
    let own = c.index-nodes.result.now in
    let is = ap (λ (xs : List (Option Message)). get_or xs c.loop-place.node None) (sym c.as_slice.ensures.value) ∙ c.value_at-message.ensures in
    (next_node m.chains m.held.items c.args.chain own c.requires.region.holding c.requires.there c.index-nodes.ensures c.loop-place.place c.loop-place.node c.loop-place-test.true c.loop-place.invariant.0 c.index-node.result.now c.index-node.ensures, search_none m.chains m.held.items c.args.chain own c.requires.region.holding c.requires.there c.index-nodes.ensures c.loop-place.place c.loop-place.node c.loop-place-test.true c.loop-place.invariant.0 (g.P.Test.passes c.args.test.now) c.value_at-message.result.now is c.loop-place.invariant.1 (sym c.passes.ensures ∙ c.if-passes.false))

pub returns : goal.returns
returns g c =
    let m = c.args.region.now in
    let own = c.index-nodes.result.now in
    search_end m.chains m.held.items c.args.chain own c.requires.region.holding c.requires.there c.index-nodes.ensures (g.P.Test.passes c.args.test.now) c.loop-place.place c.loop-place-test.false c.loop-place.invariant.1
