use Rattle.std.proofs.Common.{◌≡◌, ◌+◌, length, sym, ap, ◌∙◌, subst, List, Option, arith}
use Rattle.pat_mailboxes.specs.queues.Chained.{queue_nodes}
use Rattle.pat_mailboxes.specs.queues.Pooled.{IsHolding, contents_of}
use Rattle.pat_mailboxes.proofs.Holding.{held_node}
use Rattle.pat_mailboxes.proofs.queues.region.Region.make_node.Goals as goal

pub returns-clause-region : goal.returns-clause-region
returns-clause-region g c =
    let m = c.args.self.now in
    let n = c.add_node.new.self in
    let a = m.chains.links.ok.0 in
    let b = n.links.ok.0 in
    let nodes = c.add_node.ensures.nodes in
    let more : length n.links.items ≡ length m.chains.links.items + 1 = omega arith in
    let some = c.requires.fresh in
    let few = c.requires.region.few in
    let values = c.requires.region.values in
    let links = c.requires.region.links in
    let longer = c.push_reserved.ensures.len in
    let same = c.push_reserved.ensures.capacity in
    let wide = c.add_node.ensures.capacity in
    record {
      holding = subst (λ (h : List (Option g.row.T.Denot)). IsHolding n h) (sym c.push_reserved.ensures.items) (held_node m.chains n m.held.items c.requires.region.holding c.add_node.ensures.chained more c.add_node.ensures.queues).0;
      few = omega arith;
      values = omega arith;
      links = omega arith;
    }

pub returns-clause-contents : goal.returns-clause-contents
returns-clause-contents g c =
    let m = c.args.self.now in
    let n = c.add_node.new.self in
    let a = m.chains.links.ok.0 in
    let b = n.links.ok.0 in
    let nodes = c.add_node.ensures.nodes in
    let more : length n.links.items ≡ length m.chains.links.items + 1 = omega arith in
    ap (λ (h : List (Option g.row.T.Denot)). contents_of h (queue_nodes n)) c.push_reserved.ensures.items
    ∙ (held_node m.chains n m.held.items c.requires.region.holding c.add_node.ensures.chained more c.add_node.ensures.queues).1
