use Rattle.std.proofs.Common.{sym, ap, ◌∙◌}
use Rattle.std.specs.Prelude.{find}
use Rattle.pat_mailboxes.specs.queues.Pooled.{contents, spare_in}
use Rattle.pat_mailboxes.proofs.Marking.{live_seen}
use Rattle.pat_mailboxes.proofs.queues.pool.Pool.find.Goals as goal

pub first_in-requires-clause-there : goal.first_in-requires-clause-there
first_in-requires-clause-there g c = let i = c.self.inside in (live_seen i.marks.items (contents i.region) (spare_in i.region) c.args.queue c.args.self.now c.self.view_is c.self.invariant.1 c.requires).1

pub first_in-requires-clause-fits : goal.first_in-requires-clause-fits
first_in-requires-clause-fits g c = let i = c.self.inside in (live_seen i.marks.items (contents i.region) (spare_in i.region) c.args.queue c.args.self.now c.self.view_is c.self.invariant.1 c.requires).2

pub returns : goal.returns
returns g c =
    let i = c.self.inside in
    c.first_in.ensures ∙ ap (find (g.P.Test.passes c.args.test.now)) (sym (live_seen i.marks.items (contents i.region) (spare_in i.region) c.args.queue c.args.self.now c.self.view_is c.self.invariant.1 c.requires).3)
