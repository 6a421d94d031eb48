use Rattle.std.proofs.Common.{◌≡◌, ◌++◌, ◌∷◌, [], ℕ, List, sym, ap, ◌∙◌, subst}
use Rattle.pat_mailboxes.specs.Kept.{AreKept}
use Rattle.pat_mailboxes.proofs.Keeping.{queue_opened}
use Rattle.pat_mailboxes.proofs.store.Store.open.Goals as goal

pub returns-clause-store : goal.returns-clause-store
returns-clause-store c =
    let m = c.args.self.now in
    let q = c.in_ok-queue.queue in
    let longer : c.push_reserved.new.self.items ≡ m.ready.items ++ q ∷ [] = c.push_reserved.ensures.items ∙ ap (λ (ns : List ℕ). ns ++ q ∷ []) c.in_ok-reserve.ensures.items in
    let r = queue_opened m.queues.items m.ready.items m.pool.0 c.open.new.self.0 m.pool.1 c.args.room q c.requires c.in_ok-queue.ensures.fresh c.in_ok-queue.ensures.ok in
    subst (λ (ns : List ℕ). AreKept m.queues.items ns c.open.new.self.0 c.open.new.self.1 c.args.room) (sym longer)
    (subst (λ (n : ℕ). AreKept m.queues.items (m.ready.items ++ q ∷ []) c.open.new.self.0 n c.args.room) (sym c.in_ok-queue.ensures.spare) r.0)

pub returns-clause-same : goal.returns-clause-same
returns-clause-same c =
    let m = c.args.self.now in
    (queue_opened m.queues.items m.ready.items m.pool.0 c.open.new.self.0 m.pool.1 c.args.room c.in_ok-queue.queue c.requires c.in_ok-queue.ensures.fresh c.in_ok-queue.ensures.ok).1
