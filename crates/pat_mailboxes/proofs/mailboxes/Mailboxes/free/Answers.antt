use Rattle.std.proofs.Common.{◌≡◌, ℕ, List, [], slice_get, slice_set, Option, Some, None, sym, ap, ◌∙◌, subst, arith}
use Rattle.std.specs.Option.{unwrap_or}
use Rattle.pat_mailboxes.specs.queues.Queues.{values_at}
use Rattle.pat_reduce.specs.declared.threads.state.Message.{Message}
use Rattle.pat_mailboxes.specs.Kept.{AreKept}
use Rattle.pat_mailboxes.proofs.Keeping.{inside, live_queue, entry_freed}
use Rattle.pat_mailboxes.proofs.Seeing.{seen_entry, seen_pending, freed}
use Rattle.pat_mailboxes.proofs.mailboxes.Mailboxes.free.Goals as goal

pub queue_of-queue-requires : goal.queue_of-queue-requires
queue_of-queue-requires c =
    let s = c.self.inside.store in
    seen_entry s.queues.items s.pool.0 c.self.inside.room c.self.inside.spare c.args.self.now c.self.view_is c.args.mailbox c.as_slice.result.now c.as_slice.ensures.value c.requires.live

pub index_mut-requires : goal.index_mut-requires
index_mut-requires c =
    let s = c.self.inside.store in
    let at : slice_get s.queues.items c.args.mailbox ≡ Some (Some c.queue_of-queue.result) = ap (λ (xs : List (Option ℕ)). slice_get xs c.args.mailbox) (sym c.as_slice.ensures.value) ∙ c.queue_of-queue.ensures in
    let there = inside s.queues.items c.args.mailbox (Some c.queue_of-queue.result) at in
    let size = s.queues.ok.0 in
    omega arith

pub release-requires : goal.release-requires
release-requires c =
    let s = c.self.inside.store in
    let at : slice_get s.queues.items c.args.mailbox ≡ Some (Some c.queue_of-queue.result) = ap (λ (xs : List (Option ℕ)). slice_get xs c.args.mailbox) (sym c.as_slice.ensures.value) ∙ c.queue_of-queue.ensures in
    let none : values_at s.pool.0 c.queue_of-queue.result ≡ [] = sym (seen_pending s.queues.items s.pool.0 c.self.inside.room c.self.inside.spare c.args.self.now c.self.view_is c.args.mailbox c.queue_of-queue.result at) ∙ c.requires.empty in
    let live = (live_queue s.queues.items s.ready.items s.pool.0 s.pool.1 c.self.inside.room c.args.mailbox c.queue_of-queue.result c.self.invariant.0 at) in
    live.1 ∙ ap Some (ap (λ (o : Option (List Message)). unwrap_or o []) (sym live.1) ∙ none)

pub invariant_of-self : goal.invariant_of-self
invariant_of-self c =
    let s = c.self.inside.store in
    let at : slice_get s.queues.items c.args.mailbox ≡ Some (Some c.queue_of-queue.result) = ap (λ (xs : List (Option ℕ)). slice_get xs c.args.mailbox) (sym c.as_slice.ensures.value) ∙ c.queue_of-queue.ensures in
    let none : values_at s.pool.0 c.queue_of-queue.result ≡ [] = sym (seen_pending s.queues.items s.pool.0 c.self.inside.room c.self.inside.spare c.args.self.now c.self.view_is c.args.mailbox c.queue_of-queue.result at) ∙ c.requires.empty in
    let r = entry_freed s.queues.items s.ready.items s.pool.0 s.pool.1 c.self.inside.room c.args.mailbox c.queue_of-queue.result c.self.invariant.0 at c.release.new.self.0 none c.release.ensures.queue in
    (subst (λ (n : ℕ). AreKept (slice_set s.queues.items c.args.mailbox None) s.ready.items c.release.new.self.0 n c.self.inside.room) (sym c.release.ensures.spare) r.0, c.self.invariant.1, c.self.invariant.2)

pub returns : goal.returns
returns c =
    let s = c.self.inside.store in
    let at : slice_get s.queues.items c.args.mailbox ≡ Some (Some c.queue_of-queue.result) = ap (λ (xs : List (Option ℕ)). slice_get xs c.args.mailbox) (sym c.as_slice.ensures.value) ∙ c.queue_of-queue.ensures in
    let none : values_at s.pool.0 c.queue_of-queue.result ≡ [] = sym (seen_pending s.queues.items s.pool.0 c.self.inside.room c.self.inside.spare c.args.self.now c.self.view_is c.args.mailbox c.queue_of-queue.result at) ∙ c.requires.empty in
    let r = entry_freed s.queues.items s.ready.items s.pool.0 s.pool.1 c.self.inside.room c.args.mailbox c.queue_of-queue.result c.self.invariant.0 at c.release.new.self.0 none c.release.ensures.queue in
    freed s.queues.items s.pool.0 c.self.inside.room c.self.inside.spare c.args.self.now c.self.view_is c.args.mailbox _ r.1
