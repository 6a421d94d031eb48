use Rattle.std.proofs.Common.{◌≡◌, ℕ, List, remove, slice_get, Option, Some, sym, ap, ◌∙◌, subst, arith}
use Rattle.std.proofs.lemmas.List.Edits.{length-remove}
use Rattle.pat_mailboxes.specs.queues.Queues.{values_at}
use Rattle.pat_reduce.specs.declared.threads.state.Message.{Message}
use Rattle.pat_mailboxes.specs.Mailboxes.{IsInOrder}
use Rattle.pat_mailboxes.specs.queues.Lanes.{IsMessageAt}
use Rattle.pat_mailboxes.proofs.Messages.{order_remove}
use Rattle.pat_mailboxes.proofs.Keeping.{inside, pending_is, live_queue, queue_changed}
use Rattle.pat_mailboxes.proofs.Seeing.{seen_entry, seen_pending, returned}
use Rattle.pat_mailboxes.proofs.mailboxes.Mailboxes.take.Goals as goal

pub queue_of-queue-requires : goal.queue_of-queue-requires
queue_of-queue-requires c =
    let s = c.self.inside.store in
    seen_entry s.queues.items s.pool.0 c.self.inside.room c.self.inside.spare c.args.self.now c.self.view_is c.args.mailbox c.as_slice.result.now c.as_slice.ensures.value c.requires.live

pub take-requires-clause-live : goal.take-requires-clause-live
take-requires-clause-live c =
    let s = c.self.inside.store in
    let at : slice_get s.queues.items c.args.mailbox ≡ Some (Some c.queue_of-queue.result) = ap (λ (xs : List (Option ℕ)). slice_get xs c.args.mailbox) (sym c.as_slice.ensures.value) ∙ c.queue_of-queue.ensures in
    live_queue s.queues.items s.ready.items s.pool.0 s.pool.1 c.self.inside.room c.args.mailbox c.queue_of-queue.result c.self.invariant.0 at

pub take-requires-clause-there : goal.take-requires-clause-there
take-requires-clause-there c =
    let s = c.self.inside.store in
    let at : slice_get s.queues.items c.args.mailbox ≡ Some (Some c.queue_of-queue.result) = ap (λ (xs : List (Option ℕ)). slice_get xs c.args.mailbox) (sym c.as_slice.ensures.value) ∙ c.queue_of-queue.ensures in
    subst (λ (vs : List Message). (place : ℕ) × IsMessageAt c.args.tag c.args.number vs place) (seen_pending s.queues.items s.pool.0 c.self.inside.room c.self.inside.spare c.args.self.now c.self.view_is c.args.mailbox c.queue_of-queue.result at) c.requires.there

pub invariant_of-self : goal.invariant_of-self
invariant_of-self c =
    let s = c.self.inside.store in
    let at : slice_get s.queues.items c.args.mailbox ≡ Some (Some c.queue_of-queue.result) = ap (λ (xs : List (Option ℕ)). slice_get xs c.args.mailbox) (sym c.as_slice.ensures.value) ∙ c.queue_of-queue.ensures in
    let order : IsInOrder c.args.mailbox (values_at s.pool.0 c.queue_of-queue.result) = subst (IsInOrder c.args.mailbox) (pending_is s.queues.items s.pool.0 c.args.mailbox c.queue_of-queue.result at) (c.self.invariant.0.order c.args.mailbox) in
    let took = c.take.ensures.queue in
    let there = inside (values_at s.pool.0 c.queue_of-queue.result) took.0 c.take.result took.1 in
    let fewer = length-remove (values_at s.pool.0 c.queue_of-queue.result) took.0 there in
    let spare = c.take.ensures.spare in
    let r = queue_changed s.queues.items s.ready.items s.pool.0 s.pool.1 c.self.inside.room c.args.mailbox c.queue_of-queue.result c.self.invariant.0 at c.take.new.self.0 c.take.new.self.1 (remove (values_at s.pool.0 c.queue_of-queue.result) took.0) took.2 (order_remove c.args.mailbox (values_at s.pool.0 c.queue_of-queue.result) took.0 order) (omega arith) in
    (r.0, c.self.invariant.1, c.self.invariant.2)

pub returns-clause-rest : goal.returns-clause-rest
returns-clause-rest c =
    let s = c.self.inside.store in
    let at : slice_get s.queues.items c.args.mailbox ≡ Some (Some c.queue_of-queue.result) = ap (λ (xs : List (Option ℕ)). slice_get xs c.args.mailbox) (sym c.as_slice.ensures.value) ∙ c.queue_of-queue.ensures in
    let order : IsInOrder c.args.mailbox (values_at s.pool.0 c.queue_of-queue.result) = subst (IsInOrder c.args.mailbox) (pending_is s.queues.items s.pool.0 c.args.mailbox c.queue_of-queue.result at) (c.self.invariant.0.order c.args.mailbox) in
    let took = c.take.ensures.queue in
    let there = inside (values_at s.pool.0 c.queue_of-queue.result) took.0 c.take.result took.1 in
    let fewer = length-remove (values_at s.pool.0 c.queue_of-queue.result) took.0 there in
    let spare = c.take.ensures.spare in
    let r = queue_changed s.queues.items s.ready.items s.pool.0 s.pool.1 c.self.inside.room c.args.mailbox c.queue_of-queue.result c.self.invariant.0 at c.take.new.self.0 c.take.new.self.1 (remove (values_at s.pool.0 c.queue_of-queue.result) took.0) took.2 (order_remove c.args.mailbox (values_at s.pool.0 c.queue_of-queue.result) took.0 order) (omega arith) in (
      took.0,
      ap (λ (vs : List Message). slice_get vs took.0) (seen_pending s.queues.items s.pool.0 c.self.inside.room c.self.inside.spare c.args.self.now c.self.view_is c.args.mailbox c.queue_of-queue.result at) ∙ took.1,
      returned s.queues.items s.pool.0 c.self.inside.room c.self.inside.spare c.args.self.now c.self.view_is c.args.mailbox c.queue_of-queue.result at (λ vs. remove vs took.0) _ r.1,
    )
