use Rattle.std.proofs.Common.{◌≡◌, Some, List, ap, sym, refl, ◌∙◌, slice_get, length}
use Rattle.std.proofs.lemmas.Option.{slice_get_read}
use Rattle.pat_mailboxes.specs.queues.Pooled.{contents, spare_in}
use Rattle.pat_mailboxes.specs.declared.queues.pool.Mark.{Mark}
use Rattle.pat_mailboxes.specs.declared.queues.pool.Mark.TheVariants.{Closed}
use Rattle.pat_mailboxes.proofs.Marking.{reopen_seen}
use Rattle.pat_mailboxes.proofs.queues.pool.Pool.reopen.Goals as goal

pub invariant_of-self : goal.invariant_of-self
invariant_of-self c =
    let i = c.self.inside in
    let l = c.in-Some-Closed.ensures.lookup in
    let at : slice_get i.marks.items c.in_ok-queue.queue ≡ Some (Closed c.in-Some-Closed.next) =
    ap (λ (ms : List Mark). slice_get ms c.in_ok-queue.queue) (sym c.deref.ensures.value) ∙ slice_get_read c.deref.result.now (length c.deref.result.now) c.in_ok-queue.queue c.in-Some-Closed.field-0.now refl l.3.0 l.1 ∙ ap Some c.in-Some-Closed.field-0-is in
    let r = reopen_seen i.marks.items (contents i.region) (spare_in i.region) c.in_ok-queue.queue c.args.self.now c.self.view_is c.self.invariant.1 c.in-Some-Closed.next at in
    (c.self.invariant.0, r.1)

pub returns-in-Some-Closed-clause-fresh : goal.returns-in-Some-Closed-clause-fresh
returns-in-Some-Closed-clause-fresh c =
    let i = c.self.inside in
    let l = c.in-Some-Closed.ensures.lookup in
    let at : slice_get i.marks.items c.in_ok-queue.queue ≡ Some (Closed c.in-Some-Closed.next) =
    ap (λ (ms : List Mark). slice_get ms c.in_ok-queue.queue) (sym c.deref.ensures.value) ∙ slice_get_read c.deref.result.now (length c.deref.result.now) c.in_ok-queue.queue c.in-Some-Closed.field-0.now refl l.3.0 l.1 ∙ ap Some c.in-Some-Closed.field-0-is in
    let r = reopen_seen i.marks.items (contents i.region) (spare_in i.region) c.in_ok-queue.queue c.args.self.now c.self.view_is c.self.invariant.1 c.in-Some-Closed.next at in
    r.0

pub returns-in-Some-Closed-clause-some : goal.returns-in-Some-Closed-clause-some
returns-in-Some-Closed-clause-some c =
    let i = c.self.inside in
    let l = c.in-Some-Closed.ensures.lookup in
    let at : slice_get i.marks.items c.in_ok-queue.queue ≡ Some (Closed c.in-Some-Closed.next) =
    ap (λ (ms : List Mark). slice_get ms c.in_ok-queue.queue) (sym c.deref.ensures.value) ∙ slice_get_read c.deref.result.now (length c.deref.result.now) c.in_ok-queue.queue c.in-Some-Closed.field-0.now refl l.3.0 l.1 ∙ ap Some c.in-Some-Closed.field-0-is in
    let r = reopen_seen i.marks.items (contents i.region) (spare_in i.region) c.in_ok-queue.queue c.args.self.now c.self.view_is c.self.invariant.1 c.in-Some-Closed.next at in
    r.2
