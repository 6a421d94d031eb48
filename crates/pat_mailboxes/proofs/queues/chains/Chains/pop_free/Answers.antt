use Rattle.std.proofs.Common.{◌-◌, ◌∷◌, [], sym, subst, arith, ℕ}
use Rattle.std.proofs.lemmas.List.{get_or_read}
use Rattle.pat_mailboxes.specs.queues.Chained.{IsLinked}
use Rattle.pat_mailboxes.proofs.Linking.{first_is_node, popped}
use Rattle.pat_mailboxes.proofs.queues.chains.Chains.pop_free.Goals as goal

pub index-next-requires : goal.index-next-requires
index-next-requires c =
    let m = c.args.self.now in
    let inside = first_is_node m.links.items m.first_free m.spare m.queues.items c.requires.chained c.requires.spare in
    let size = m.links.ok.0 in
    omega arith

pub returns-clause-chained : goal.returns-clause-chained
returns-clause-chained c =
    let m = c.args.self.now in
    let inside = first_is_node m.links.items m.first_free m.spare m.queues.items c.requires.chained c.requires.spare in
    subst (λ (a : ℕ). IsLinked m.links.items a (m.spare - 1) m.queues.items (m.first_free ∷ [])) (sym (get_or_read m.links.items m.first_free c.index-next.result.now inside c.index-next.ensures 0))
    (popped m.links.items m.first_free m.spare m.queues.items c.requires.chained c.requires.spare)
