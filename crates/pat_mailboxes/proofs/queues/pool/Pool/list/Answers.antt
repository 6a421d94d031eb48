use Rattle.std.proofs.Common.{List, map, sym, subst}
use Rattle.std.specs.Prelude.{IfOk}
use Rattle.std.specs.List.Sorted.{IsPermutation}
use Rattle.std.specs.Borrow.{Bor}
use Rattle.pat_reduce.specs.declared.threads.state.Message.{Message}
use Rattle.pat_mailboxes.specs.queues.Pooled.{contents, spare_in}
use Rattle.pat_mailboxes.proofs.Marking.{live_seen}
use Rattle.pat_mailboxes.proofs.queues.pool.Pool.list.Goals as goal

pub list_in-requires-clause-there : goal.list_in-requires-clause-there
list_in-requires-clause-there c = let i = c.self.inside in (live_seen i.marks.items (contents i.region) (spare_in i.region) c.args.queue c.args.self.now c.self.view_is c.self.invariant.1 c.requires).1

pub list_in-requires-clause-fits : goal.list_in-requires-clause-fits
list_in-requires-clause-fits c = let i = c.self.inside in (live_seen i.marks.items (contents i.region) (spare_in i.region) c.args.queue c.args.self.now c.self.view_is c.self.invariant.1 c.requires).2

pub returns-clause-all : goal.returns-clause-all
returns-clause-all c =
    let i = c.self.inside in
    subst (λ (vs : List Message). IfOk c.list_in.result (λ ms. IsPermutation vs (map (λ (m : Bor Message). m.now) ms.items))) (sym (live_seen i.marks.items (contents i.region) (spare_in i.region) c.args.queue c.args.self.now c.self.view_is c.self.invariant.1 c.requires).3) c.list_in.ensures.all
