use Rattle.std.proofs.Common.{◌<◌, [], ◌∷◌, ◌++◌, length, get_or, slice_set, List, sym, ap, ◌∙◌, subst, arith}
use Rattle.std.proofs.lemmas.List.{length-map}
use Rattle.pat_mailboxes.specs.queues.Chained.{queue_nodes}
use Rattle.pat_mailboxes.specs.queues.Pooled.{values_of}
use Rattle.pat_mailboxes.proofs.Holding.{pushed_value}
use Rattle.pat_mailboxes.proofs.queues.region.Region.push.Goals as goal

pub give-node-requires-clause-there : goal.give-node-requires-clause-there
give-node-requires-clause-there g c =
    let m = c.ready_node.new.self in
    let there = subst (λ (qs : List (List g.row.T.Denot)). c.args.queue < length qs) (sym c.ready_node.ensures.contents) c.requires.there in
    let size = length-map (queue_nodes m.chains) (values_of m.held.items) in
    omega arith

pub index_mut-requires : goal.index_mut-requires
index_mut-requires g c =
    let m = c.ready_node.new.self in
    let n = c.give-node.new.self in
    let there = subst (λ (qs : List (List g.row.T.Denot)). c.args.queue < length qs) (sym c.ready_node.ensures.contents) c.requires.there in
    let size = length-map (queue_nodes m.chains) (values_of m.held.items) in
    let p = pushed_value m.chains n m.held.items c.args.queue c.give-node.result c.args.value c.ready_node.ensures.region.holding (omega arith) c.give-node.ensures.chained c.give-node.ensures.nodes c.give-node.ensures.queues in
    let inside = p.2 in
    let held = m.held.ok.0 in
    omega arith

pub returns-clause-region : goal.returns-clause-region
returns-clause-region g c =
    let m = c.ready_node.new.self in
    let n = c.give-node.new.self in
    let there = subst (λ (qs : List (List g.row.T.Denot)). c.args.queue < length qs) (sym c.ready_node.ensures.contents) c.requires.there in
    let size = length-map (queue_nodes m.chains) (values_of m.held.items) in
    let p = pushed_value m.chains n m.held.items c.args.queue c.give-node.result c.args.value c.ready_node.ensures.region.holding (omega arith) c.give-node.ensures.chained c.give-node.ensures.nodes c.give-node.ensures.queues in
    let few = c.ready_node.ensures.region.few in
    let values = c.ready_node.ensures.region.values in
    let links = c.ready_node.ensures.region.links in
    let a = m.chains.links.ok.0 in
    let b = n.links.ok.0 in
    let nodes = c.give-node.ensures.nodes in
    let wide = c.give-node.ensures.capacity in
    record {
      holding = p.0;
      few = few;
      values = values;
      links = omega arith;
    }

pub returns-clause-contents : goal.returns-clause-contents
returns-clause-contents g c =
    let m = c.ready_node.new.self in
    let n = c.give-node.new.self in
    let there = subst (λ (qs : List (List g.row.T.Denot)). c.args.queue < length qs) (sym c.ready_node.ensures.contents) c.requires.there in
    let size = length-map (queue_nodes m.chains) (values_of m.held.items) in
    let p = pushed_value m.chains n m.held.items c.args.queue c.give-node.result c.args.value c.ready_node.ensures.region.holding (omega arith) c.give-node.ensures.chained c.give-node.ensures.nodes c.give-node.ensures.queues in
    p.1 ∙ ap (λ (qs : List (List g.row.T.Denot)). slice_set qs c.args.queue (get_or qs c.args.queue [] ++ c.args.value ∷ [])) c.ready_node.ensures.contents
