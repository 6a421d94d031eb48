use Rattle.std.proofs.Common.{[], ◌∷◌, ◌++◌, Some, List, sym, ap, ◌∙◌, subst, arith}
use Rattle.pat_mailboxes.specs.queues.Queues.{Becomes}
use Rattle.pat_mailboxes.specs.queues.Pooled.{contents, spare_in, queues_of, AreMarked}
use Rattle.pat_mailboxes.specs.declared.queues.pool.Mark.{Mark}
use Rattle.pat_mailboxes.specs.declared.queues.pool.Mark.TheVariants.{Live}
use Rattle.pat_mailboxes.proofs.Marking.{add_seen, more_seen, on_err}
use Rattle.pat_mailboxes.proofs.queues.pool.Pool.add_queue.Goals as goal

pub returns-in_err-add_queues-clause-err : goal.returns-in_err-add_queues-clause-err
returns-in_err-add_queues-clause-err c =
    let i = c.self.inside in
    on_err c.from_residual-in_err-add_queues.result _
    (ap (λ (ms : List Mark). queues_of ms (contents c.add_queues.new.self)) c.in_ok-reserve.ensures.items ∙ (more_seen i.marks.items (contents i.region) (spare_in i.region) c.len-queue.result c.args.self.now c.self.view_is c.self.invariant.1 (contents c.add_queues.new.self) c.add_queues.ensures.more c.add_queues.ensures.same).1)

pub invariant_of-self-2 : goal.invariant_of-self-2
invariant_of-self-2 c =
    let i = c.self.inside in
    let few = c.if-queue-ge-MOST_QUEUES.false in
    let each = c.in_ok-add_queues.ensures.ok in
    let r = add_seen i.marks.items (contents i.region) (spare_in i.region) c.len-queue.result c.args.self.now c.self.view_is c.self.invariant.1 (contents c.add_queues.new.self) (c.len-queue.ensures ∙ i.marks.ok.0) (omega arith) (omega arith) c.add_queues.ensures.more c.add_queues.ensures.same in
    (c.add_queues.ensures.region, subst (λ (ms : List Mark). AreMarked ms (contents c.add_queues.new.self)) (sym (c.push_reserved.ensures.items ∙ ap (λ (ms : List Mark). ms ++ Live ∷ []) c.in_ok-reserve.ensures.items)) r.1)

pub returns-clause-fresh : goal.returns-clause-fresh
returns-clause-fresh c =
    let i = c.self.inside in
    let few = c.if-queue-ge-MOST_QUEUES.false in
    let each = c.in_ok-add_queues.ensures.ok in
    let r = add_seen i.marks.items (contents i.region) (spare_in i.region) c.len-queue.result c.args.self.now c.self.view_is c.self.invariant.1 (contents c.add_queues.new.self) (c.len-queue.ensures ∙ i.marks.ok.0) (omega arith) (omega arith) c.add_queues.ensures.more c.add_queues.ensures.same in
    r.0

pub returns-clause-ok : goal.returns-clause-ok
returns-clause-ok c =
    let i = c.self.inside in
    let few = c.if-queue-ge-MOST_QUEUES.false in
    let each = c.in_ok-add_queues.ensures.ok in
    let r = add_seen i.marks.items (contents i.region) (spare_in i.region) c.len-queue.result c.args.self.now c.self.view_is c.self.invariant.1 (contents c.add_queues.new.self) (c.len-queue.ensures ∙ i.marks.ok.0) (omega arith) (omega arith) c.add_queues.ensures.more c.add_queues.ensures.same in
    subst (λ (ms : List Mark). Becomes c.args.self.now.0 (queues_of ms (contents c.add_queues.new.self)) c.len-queue.result (Some [])) (sym (c.push_reserved.ensures.items ∙ ap (λ (ms : List Mark). ms ++ Live ∷ []) c.in_ok-reserve.ensures.items)) r.2
