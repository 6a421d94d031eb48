use Rattle.std.proofs.Common.{◌≡◌, ℕ, ◌<◌, List, [], ◌∷◌, ◌++◌, slice_get, Option, Some, refl, sym, ap, ◌∙◌, subst, arith, length-append}
use Rattle.std.specs.List.{AllByRecursion}
use Rattle.pat_mailboxes.specs.queues.Queues.{values_at}
use Rattle.pat_reduce.specs.declared.threads.state.Message.{Message}
use Rattle.pat_mailboxes.specs.Mailboxes.{Contents, IsInOrder, all_pending}
use Rattle.pat_mailboxes.proofs.Messages.{order_push}
use Rattle.pat_mailboxes.proofs.Keeping.{pending_is, live_queue, queue_changed}
use Rattle.pat_mailboxes.proofs.Seeing.{first, seen_entry, seen_pending, returned}
use Rattle.pat_mailboxes.proofs.mailboxes.Mailboxes.send.Goals as goal

pub queue_of-queue-requires : goal.queue_of-queue-requires
queue_of-queue-requires c =
    let s = c.self.inside.store in
    seen_entry s.queues.items s.pool.0 c.self.inside.room c.self.inside.spare c.args.self.now c.self.view_is c.args.message.mailbox c.as_slice.result.now c.as_slice.ensures.value c.requires.live

pub push_back-requires-clause-live : goal.push_back-requires-clause-live
push_back-requires-clause-live c =
    let s = c.self.inside.store in
    let at : slice_get s.queues.items c.args.message.mailbox ≡ Some (Some c.queue_of-queue.result) = ap (λ (xs : List (Option ℕ)). slice_get xs c.args.message.mailbox) (sym c.as_slice.ensures.value) ∙ c.queue_of-queue.ensures in
    (live_queue s.queues.items s.ready.items s.pool.0 s.pool.1 c.self.inside.room c.args.message.mailbox c.queue_of-queue.result c.self.invariant.0 at)

pub push_back-requires-clause-last : goal.push_back-requires-clause-last
push_back-requires-clause-last c =
    let s = c.self.inside.store in
    let at : slice_get s.queues.items c.args.message.mailbox ≡ Some (Some c.queue_of-queue.result) = ap (λ (xs : List (Option ℕ)). slice_get xs c.args.message.mailbox) (sym c.as_slice.ensures.value) ∙ c.queue_of-queue.ensures in
    subst (λ (vs : List Message). AllByRecursion (λ n. n.number < c.args.message.number) vs) (seen_pending s.queues.items s.pool.0 c.self.inside.room c.self.inside.spare c.args.self.now c.self.view_is c.args.message.mailbox c.queue_of-queue.result at) c.requires.last

pub push_back-requires-clause-spare : goal.push_back-requires-clause-spare
push_back-requires-clause-spare c =
    let s = c.self.inside.store in
    let all = c.self.invariant.0.all in
    let same = ap (λ (v : Contents). v.room) c.self.view_is in
    let sum = ap all_pending (first s.queues.items s.pool.0 c.self.inside.room c.self.inside.spare c.args.self.now c.self.view_is) in
    let room = c.requires.room in
    omega arith

pub invariant_of-self : goal.invariant_of-self
invariant_of-self c =
    let s = c.self.inside.store in
    let at : slice_get s.queues.items c.args.message.mailbox ≡ Some (Some c.queue_of-queue.result) = ap (λ (xs : List (Option ℕ)). slice_get xs c.args.message.mailbox) (sym c.as_slice.ensures.value) ∙ c.queue_of-queue.ensures in
    let order : IsInOrder c.args.message.mailbox (values_at s.pool.0 c.queue_of-queue.result) = subst (IsInOrder c.args.message.mailbox) (pending_is s.queues.items s.pool.0 c.args.message.mailbox c.queue_of-queue.result at) (c.self.invariant.0.order c.args.message.mailbox) in
    let last = subst (λ (vs : List Message). AllByRecursion (λ n. n.number < c.args.message.number) vs) (seen_pending s.queues.items s.pool.0 c.self.inside.room c.self.inside.spare c.args.self.now c.self.view_is c.args.message.mailbox c.queue_of-queue.result at) c.requires.last in
    let longer = length-append (values_at s.pool.0 c.queue_of-queue.result) (c.args.message ∷ []) in
    let spare = c.push_back.ensures.spare in
    let r = queue_changed s.queues.items s.ready.items s.pool.0 s.pool.1 c.self.inside.room c.args.message.mailbox c.queue_of-queue.result c.self.invariant.0 at c.push_back.new.self.0 c.push_back.new.self.1 (values_at s.pool.0 c.queue_of-queue.result ++ c.args.message ∷ []) c.push_back.ensures.queue (order_push c.args.message.mailbox (values_at s.pool.0 c.queue_of-queue.result) c.args.message order last refl) (omega arith) in
    (r.0, c.self.invariant.1, c.self.invariant.2)

pub returns : goal.returns
returns c =
    let s = c.self.inside.store in
    let at : slice_get s.queues.items c.args.message.mailbox ≡ Some (Some c.queue_of-queue.result) = ap (λ (xs : List (Option ℕ)). slice_get xs c.args.message.mailbox) (sym c.as_slice.ensures.value) ∙ c.queue_of-queue.ensures in
    let order : IsInOrder c.args.message.mailbox (values_at s.pool.0 c.queue_of-queue.result) = subst (IsInOrder c.args.message.mailbox) (pending_is s.queues.items s.pool.0 c.args.message.mailbox c.queue_of-queue.result at) (c.self.invariant.0.order c.args.message.mailbox) in
    let last = subst (λ (vs : List Message). AllByRecursion (λ n. n.number < c.args.message.number) vs) (seen_pending s.queues.items s.pool.0 c.self.inside.room c.self.inside.spare c.args.self.now c.self.view_is c.args.message.mailbox c.queue_of-queue.result at) c.requires.last in
    let longer = length-append (values_at s.pool.0 c.queue_of-queue.result) (c.args.message ∷ []) in
    let spare = c.push_back.ensures.spare in
    let r = queue_changed s.queues.items s.ready.items s.pool.0 s.pool.1 c.self.inside.room c.args.message.mailbox c.queue_of-queue.result c.self.invariant.0 at c.push_back.new.self.0 c.push_back.new.self.1 (values_at s.pool.0 c.queue_of-queue.result ++ c.args.message ∷ []) c.push_back.ensures.queue (order_push c.args.message.mailbox (values_at s.pool.0 c.queue_of-queue.result) c.args.message order last refl) (omega arith) in
    returned s.queues.items s.pool.0 c.self.inside.room c.self.inside.spare c.args.self.now c.self.view_is c.args.message.mailbox c.queue_of-queue.result at (λ vs. vs ++ c.args.message ∷ []) _ r.1
