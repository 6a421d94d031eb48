use Rattle.std.proofs.Common.{◌≡◌, ℕ, List, map, slice_get, Option, Some, sym, ap, ◌∙◌, subst}
use Rattle.std.specs.Prelude.{IfOk}
use Rattle.std.specs.Borrow.{Bor}
use Rattle.pat_reduce.specs.declared.threads.state.Message.{Message}
use Rattle.pat_mailboxes.specs.Mailboxes.{IsInOrder}
use Rattle.pat_mailboxes.specs.queues.Queues.{values_at}
use Rattle.pat_mailboxes.proofs.Keeping.{live_queue, pending_is}
use Rattle.pat_mailboxes.proofs.Sorted.{listed}
use Rattle.pat_mailboxes.proofs.Seeing.{seen_entry, seen_pending}
use Rattle.pat_mailboxes.proofs.mailboxes.Mailboxes.list.Goals as goal

pub queue_of-queue-requires : goal.queue_of-queue-requires
queue_of-queue-requires c =
    let s = c.self.inside.store in
    seen_entry s.queues.items s.pool.0 c.self.inside.room c.self.inside.spare c.args.self.now c.self.view_is c.args.mailbox c.as_slice.result.now c.as_slice.ensures.value c.requires

pub list-requires : goal.list-requires
list-requires c =
    let s = c.self.inside.store in
    let at : slice_get s.queues.items c.args.mailbox ≡ Some (Some c.queue_of-queue.result) = ap (λ (xs : List (Option ℕ)). slice_get xs c.args.mailbox) (sym c.as_slice.ensures.value) ∙ c.queue_of-queue.ensures in
    live_queue s.queues.items s.ready.items s.pool.0 s.pool.1 c.self.inside.room c.args.mailbox c.queue_of-queue.result c.self.invariant.0 at

pub returns : goal.returns
returns c =
    let s = c.self.inside.store in
    let at : slice_get s.queues.items c.args.mailbox ≡ Some (Some c.queue_of-queue.result) = ap (λ (xs : List (Option ℕ)). slice_get xs c.args.mailbox) (sym c.as_slice.ensures.value) ∙ c.queue_of-queue.ensures in
    let order = (subst (IsInOrder c.args.mailbox) (pending_is s.queues.items s.pool.0 c.args.mailbox c.queue_of-queue.result at) (c.self.invariant.0.order c.args.mailbox)).ascend in
    subst (λ (own : List Message). IfOk c.list.result (λ ms. map (λ (m : Bor Message). m.now) ms.items ≡ own)) (sym (seen_pending s.queues.items s.pool.0 c.self.inside.room c.self.inside.spare c.args.self.now c.self.view_is c.args.mailbox c.queue_of-queue.result at))
    (listed (values_at s.pool.0 c.queue_of-queue.result) order c.list.result c.list.ensures.all c.list.ensures.order)
