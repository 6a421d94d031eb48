use Rattle.std.proofs.Common.{List, Option, None, IsSome, get_or, refl, sym, ap, ◌∙◌, subst}
use Rattle.pat_mailboxes.proofs.Holding.{value_in, found, found_some}
use Rattle.pat_mailboxes.proofs.queues.region.Region.get.Goals as goal

pub node_at-node-requires-clause-there : goal.node_at-node-requires-clause-there
node_at-node-requires-clause-there g c = let m = c.args.self.now in (value_in m.chains m.held.items c.args.queue c.args.place c.requires.region.holding c.requires.there).0

pub value_at-requires : goal.value_at-requires
value_at-requires g c =
    let m = c.args.self.now in
    let k = c.node_at-node.result in
    let some = found_some m.chains m.held.items c.args.queue c.args.place k (get_or m.held.items k None) c.requires.region.holding c.requires.there c.node_at-node.ensures refl in
    subst (λ (xs : List (Option g.row.T.Denot)). IsSome (get_or xs k None)) (sym c.as_slice.ensures.value) some

pub returns : goal.returns
returns g c =
    let m = c.args.self.now in
    let k = c.node_at-node.result in
    found m.chains m.held.items c.args.queue c.args.place k (get_or m.held.items k None) c.requires.region.holding c.requires.there c.node_at-node.ensures refl
    ∙ ap (λ (xs : List (Option g.row.T.Denot)). get_or xs k None) (sym c.as_slice.ensures.value) ∙ c.value_at.ensures
