use Rattle.std.proofs.Common.{◌≡◌, ℕ, List, slice_get, Option, Some, sym, ap, ◌∙◌, subst}
use Rattle.std.specs.Prelude.{find}
use Rattle.pat_mailboxes.specs.Mailboxes.{AreInOrder}
use Rattle.pat_mailboxes.proofs.Keeping.{live_queue}
use Rattle.pat_mailboxes.proofs.Seeing.{first, seen_entry, seen_pending}
use Rattle.pat_mailboxes.proofs.mailboxes.Mailboxes.find.Goals as goal

pub queue_of-queue-requires : goal.queue_of-queue-requires
queue_of-queue-requires g c =
    let s = c.self.inside.store in
    seen_entry s.queues.items s.pool.0 c.self.inside.room c.self.inside.spare c.args.self.now c.self.view_is c.args.mailbox c.as_slice.result.now c.as_slice.ensures.value c.requires

pub find-requires : goal.find-requires
find-requires g c =
    let s = c.self.inside.store in
    let at : slice_get s.queues.items c.args.mailbox ≡ Some (Some c.queue_of-queue.result) = ap (λ (xs : List (Option ℕ)). slice_get xs c.args.mailbox) (sym c.as_slice.ensures.value) ∙ c.queue_of-queue.ensures in
    (live_queue s.queues.items s.ready.items s.pool.0 s.pool.1 c.self.inside.room c.args.mailbox c.queue_of-queue.result c.self.invariant.0 at)

pub returns-clause-first : goal.returns-clause-first
returns-clause-first g c =
    let s = c.self.inside.store in
    let at : slice_get s.queues.items c.args.mailbox ≡ Some (Some c.queue_of-queue.result) = ap (λ (xs : List (Option ℕ)). slice_get xs c.args.mailbox) (sym c.as_slice.ensures.value) ∙ c.queue_of-queue.ensures in
    c.find.ensures ∙ ap (find (g.P.Test.passes c.args.test.now)) (sym (seen_pending s.queues.items s.pool.0 c.self.inside.room c.self.inside.spare c.args.self.now c.self.view_is c.args.mailbox c.queue_of-queue.result at))

pub returns-clause-order : goal.returns-clause-order
returns-clause-order g c =
    let s = c.self.inside.store in
    subst AreInOrder (first s.queues.items s.pool.0 c.self.inside.room c.self.inside.spare c.args.self.now c.self.view_is) c.self.invariant.0.order
