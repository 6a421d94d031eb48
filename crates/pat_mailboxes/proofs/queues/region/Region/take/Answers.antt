use Rattle.std.proofs.Common.{◌∙◌, List, Option, None, length, length-set, ap, sym, subst, arith}
use Rattle.pat_mailboxes.specs.queues.Chained.{queue_nodes}
use Rattle.pat_mailboxes.specs.queues.Pooled.{IsHolding, contents_of}
use Rattle.pat_mailboxes.proofs.Holding.{value_in, found, taken_value, not_empty}
use Rattle.pat_mailboxes.proofs.queues.region.Region.take.Goals as goal

pub give_back-node-requires-clause-there : goal.give_back-node-requires-clause-there
give_back-node-requires-clause-there g c = let m = c.args.self.now in (value_in m.chains m.held.items c.args.queue c.args.place c.requires.region.holding c.requires.there).0

pub unreachable-requires : goal.unreachable-requires
unreachable-requires g c =
    let m = c.args.self.now in
    not_empty m.chains m.held.items c.args.queue c.args.place c.give_back-node.result c.take_out.result c.requires.region.holding c.requires.there c.give_back-node.ensures.node c.take_out.ensures.value c.in-None.is

pub returns-clause-region : goal.returns-clause-region
returns-clause-region g c =
    let m = c.args.self.now in
    let n = c.give_back-node.new.self in
    let h = c.take_out.new.held in
    let t = taken_value m.chains n m.held.items c.args.queue c.args.place c.give_back-node.result c.requires.region.holding c.requires.there c.give_back-node.ensures.chained c.give_back-node.ensures.nodes c.give_back-node.ensures.node c.give_back-node.ensures.queues in
    let few = c.requires.region.few in
    let values = c.requires.region.values in
    let links = c.requires.region.links in
    let a = m.chains.links.ok.0 in
    let b = n.links.ok.0 in
    let nodes = c.give_back-node.ensures.nodes in
    let wide = c.give_back-node.ensures.capacity in
    let x = m.held.ok.0 in
    let y = h.ok.0 in
    let long = ap length c.take_out.ensures.after ∙ length-set m.held.items c.give_back-node.result None in
    let same = c.take_out.ensures.capacity in
    record {
      holding = subst (λ (l : List (Option g.row.T.Denot)). IsHolding n l) (sym c.take_out.ensures.after) t.0;
      few = omega arith;
      values = omega arith;
      links = omega arith;
    }

pub returns-clause-value : goal.returns-clause-value
returns-clause-value g c =
    let m = c.args.self.now in
    found m.chains m.held.items c.args.queue c.args.place c.give_back-node.result c.take_out.result c.requires.region.holding c.requires.there c.give_back-node.ensures.node c.take_out.ensures.value ∙ c.in-Some.is

pub returns-clause-contents : goal.returns-clause-contents
returns-clause-contents g c =
    let m = c.args.self.now in
    let n = c.give_back-node.new.self in
    let t = taken_value m.chains n m.held.items c.args.queue c.args.place c.give_back-node.result c.requires.region.holding c.requires.there c.give_back-node.ensures.chained c.give_back-node.ensures.nodes c.give_back-node.ensures.node c.give_back-node.ensures.queues in
    ap (λ (h : List (Option g.row.T.Denot)). contents_of h (queue_nodes n)) c.take_out.ensures.after ∙ t.1
