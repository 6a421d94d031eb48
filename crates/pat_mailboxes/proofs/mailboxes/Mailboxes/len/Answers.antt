use Rattle.std.proofs.Common.{◌≡◌, ℕ, List, length, slice_get, Option, Some, sym, ap, ◌∙◌, arith}
use Rattle.pat_mailboxes.proofs.Keeping.{live_queue, pending_fits}
use Rattle.pat_mailboxes.proofs.Seeing.{seen_entry, seen_pending}
use Rattle.pat_mailboxes.proofs.mailboxes.Mailboxes.len.Goals as goal

pub queue_of-queue-requires : goal.queue_of-queue-requires
queue_of-queue-requires c =
    let s = c.self.inside.store in
    seen_entry s.queues.items s.pool.0 c.self.inside.room c.self.inside.spare c.args.self.now c.self.view_is c.args.mailbox c.as_slice.result.now c.as_slice.ensures.value c.requires

pub len-requires-clause-live : goal.len-requires-clause-live
len-requires-clause-live c =
    let s = c.self.inside.store in
    let at : slice_get s.queues.items c.args.mailbox ≡ Some (Some c.queue_of-queue.result) = ap (λ (xs : List (Option ℕ)). slice_get xs c.args.mailbox) (sym c.as_slice.ensures.value) ∙ c.queue_of-queue.ensures in
    (live_queue s.queues.items s.ready.items s.pool.0 s.pool.1 c.self.inside.room c.args.mailbox c.queue_of-queue.result c.self.invariant.0 at)

pub len-requires-clause-few : goal.len-requires-clause-few
len-requires-clause-few c =
    let s = c.self.inside.store in
    let at : slice_get s.queues.items c.args.mailbox ≡ Some (Some c.queue_of-queue.result) = ap (λ (xs : List (Option ℕ)). slice_get xs c.args.mailbox) (sym c.as_slice.ensures.value) ∙ c.queue_of-queue.ensures in
    let fits = pending_fits s.queues.items s.ready.items s.pool.0 s.pool.1 c.self.inside.room c.args.mailbox c.queue_of-queue.result c.self.invariant.0 at in
    omega arith

pub returns : goal.returns
returns c =
    let s = c.self.inside.store in
    let at : slice_get s.queues.items c.args.mailbox ≡ Some (Some c.queue_of-queue.result) = ap (λ (xs : List (Option ℕ)). slice_get xs c.args.mailbox) (sym c.as_slice.ensures.value) ∙ c.queue_of-queue.ensures in
    c.len.ensures ∙ ap length (sym (seen_pending s.queues.items s.pool.0 c.self.inside.room c.self.inside.spare c.args.self.now c.self.view_is c.args.mailbox c.queue_of-queue.result at))
