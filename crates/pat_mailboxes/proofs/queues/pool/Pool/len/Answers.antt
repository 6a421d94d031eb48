use Rattle.std.proofs.Common.{◌≤◌, List, length, sym, ap, ◌∙◌, subst}
use Rattle.pat_reduce.specs.declared.threads.state.Message.{Message}
use Rattle.pat_mailboxes.specs.queues.Pooled.{contents, spare_in}
use Rattle.pat_mailboxes.proofs.Marking.{live_seen}
use Rattle.pat_mailboxes.proofs.queues.pool.Pool.len.Goals as goal

pub count_in-requires-clause-there : goal.count_in-requires-clause-there
count_in-requires-clause-there c = let i = c.self.inside in (live_seen i.marks.items (contents i.region) (spare_in i.region) c.args.queue c.args.self.now c.self.view_is c.self.invariant.1 c.requires.live).1

pub count_in-requires-clause-fits : goal.count_in-requires-clause-fits
count_in-requires-clause-fits c = let i = c.self.inside in (live_seen i.marks.items (contents i.region) (spare_in i.region) c.args.queue c.args.self.now c.self.view_is c.self.invariant.1 c.requires.live).2

pub count_in-requires-clause-few : goal.count_in-requires-clause-few
count_in-requires-clause-few c =
    let i = c.self.inside in
    subst (λ (vs : List Message). length vs ≤ c.args.most) (live_seen i.marks.items (contents i.region) (spare_in i.region) c.args.queue c.args.self.now c.self.view_is c.self.invariant.1 c.requires.live).3 c.requires.few

pub returns : goal.returns
returns c =
    let i = c.self.inside in
    c.count_in.ensures ∙ ap length (sym (live_seen i.marks.items (contents i.region) (spare_in i.region) c.args.queue c.args.self.now c.self.view_is c.self.invariant.1 c.requires.live).3)
