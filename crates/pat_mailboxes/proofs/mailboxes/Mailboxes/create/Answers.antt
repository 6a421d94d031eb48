use Rattle.std.proofs.Common.{◌≡◌, ℕ, ◌-◌, List, [], ◌∷◌, ◌++◌, length, Option, sym, ap, ◌∙◌, subst, arith, length-append}
use Rattle.pat_mailboxes.specs.Mailboxes.{Contents}
use Rattle.pat_mailboxes.specs.Kept.{AreKept, mailboxes_of}
use Rattle.pat_mailboxes.proofs.Keeping.{entry_made}
use Rattle.pat_mailboxes.proofs.Seeing.{made}
use Rattle.pat_mailboxes.proofs.mailboxes.Mailboxes.create.Goals as goal

pub invariant_of-self : goal.invariant_of-self
invariant_of-self c =
    let s = c.self.inside.store in
    let whole : s.ready.items ≡ c.pop.new.self.items ++ c.in-Some.queue ∷ [] = c.in-Some.ensures.items in
    let r = entry_made s.queues.items c.pop.new.self.items s.pool.0 s.pool.1 c.self.inside.room c.in-Some.queue (subst (λ (ns : List ℕ). AreKept s.queues.items ns s.pool.0 s.pool.1 c.self.inside.room) whole c.self.invariant.0) in
    let longer = ap length whole ∙ length-append c.pop.new.self.items (c.in-Some.queue ∷ []) in
    let ready = c.self.invariant.1 in
    let room = c.self.invariant.2 in
    let len = c.push_reserved.ensures.len in
    let capacity = c.push_reserved.ensures.capacity in
    let spare = c.requires.room in
    let same = ap (λ (v : Contents). v.spare) c.self.view_is in (
      subst (λ (es : List (Option ℕ)). AreKept es c.pop.new.self.items s.pool.0 s.pool.1 c.self.inside.room) (sym c.push_reserved.ensures.items) r.0,
      omega arith,
      omega arith,
    )

pub returns : goal.returns
returns c =
    let s = c.self.inside.store in
    let whole : s.ready.items ≡ c.pop.new.self.items ++ c.in-Some.queue ∷ [] = c.in-Some.ensures.items in
    let r = entry_made s.queues.items c.pop.new.self.items s.pool.0 s.pool.1 c.self.inside.room c.in-Some.queue (subst (λ (ns : List ℕ). AreKept s.queues.items ns s.pool.0 s.pool.1 c.self.inside.room) whole c.self.invariant.0) in
    made s.queues.items s.pool.0 c.self.inside.room c.self.inside.spare c.args.self.now c.self.view_is _ (λ n. n - 1) _ (ap (λ (es : List (Option ℕ)). mailboxes_of es s.pool.0) c.push_reserved.ensures.items ∙ r.1)
