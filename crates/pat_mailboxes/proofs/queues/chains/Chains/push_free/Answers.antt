use Rattle.std.proofs.Common.{◌∷◌, [], arith}
use Rattle.pat_mailboxes.proofs.Linking.{spare_fits, loose_is_node, pushed}
use Rattle.pat_mailboxes.proofs.queues.chains.Chains.push_free.Goals as goal

pub index_mut-requires : goal.index_mut-requires
index_mut-requires c =
    let m = c.args.self.now in
    let inside = loose_is_node m.links.items m.first_free m.spare m.queues.items c.args.node c.requires in
    let size = m.links.ok.0 in
    omega arith

pub overflow_add-self : goal.overflow_add-self
overflow_add-self c =
    let m = c.args.self.now in
    let spare = spare_fits m.links.items m.first_free m.spare m.queues.items (c.args.node ∷ []) c.requires in
    let fits = c.requires.fits in
    omega arith

pub returns-clause-chained : goal.returns-clause-chained
returns-clause-chained c = let m = c.args.self.now in (pushed m.links.items m.first_free m.spare m.queues.items c.args.node c.requires).0

pub returns-clause-queues : goal.returns-clause-queues
returns-clause-queues c = let m = c.args.self.now in (pushed m.links.items m.first_free m.spare m.queues.items c.args.node c.requires).1
