use Rattle.std.proofs.Common.{◌+◌, ◌<◌, ◌∷◌, ◌++◌, [], length, map, sym, ap, ◌∙◌, subst, arith, List, ℕ}
use Rattle.pat_mailboxes.specs.queues.Chained.{IsLinked, nodes_of}
use Rattle.pat_mailboxes.proofs.Linking.{spare_fits, added_node}
use Rattle.pat_mailboxes.proofs.queues.chains.Chains.add_node.Goals as goal
use Rattle.pat_limits.specs.Limits.{number_count}

pub overflow_add-self : goal.overflow_add-self
overflow_add-self c =
    let m = c.args.self.now in
    let spare = spare_fits m.links.items m.first_free m.spare m.queues.items [] c.requires.chained in
    let size = m.links.ok.0 in
    let fits = c.requires.fits in
    omega arith

pub returns-clause-chained : goal.returns-clause-chained
returns-clause-chained c =
    let m = c.args.self.now in
    let links = m.links.items in
    let size = m.links.ok.0 in
    let fits : length links + 1 < number_count = let f = c.requires.fits in omega arith in
    let a = added_node links m.first_free m.spare m.queues.items c.requires.chained fits in
    subst (λ (ls : List ℕ). IsLinked ls c.len-node.result (m.spare + 1) m.queues.items []) (sym c.push_reserved.ensures.items)
    (subst (λ (n : ℕ). IsLinked (links ++ m.first_free ∷ []) n (m.spare + 1) m.queues.items []) (sym (c.len-node.ensures ∙ size)) a.0)

pub returns-clause-queues : goal.returns-clause-queues
returns-clause-queues c =
    let m = c.args.self.now in
    let size = m.links.ok.0 in
    let fits : length m.links.items + 1 < number_count = let f = c.requires.fits in omega arith in
    ap (λ (ls : List ℕ). map (nodes_of ls) m.queues.items) c.push_reserved.ensures.items
    ∙ (added_node m.links.items m.first_free m.spare m.queues.items c.requires.chained fits).1
