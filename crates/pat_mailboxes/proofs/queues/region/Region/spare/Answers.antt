use Rattle.std.proofs.Common.{[], arith}
use Rattle.pat_mailboxes.proofs.Linking.{spare_fits}
use Rattle.pat_mailboxes.proofs.queues.region.Region.spare.Goals as goal

pub overflow_add-result : goal.overflow_add-result
overflow_add-result g c =
    let m = c.args.self.now in
    let free = spare_fits m.chains.links.items m.chains.first_free m.chains.spare m.chains.queues.items [] c.requires.holding.chained in
    let nodes = c.requires.holding.nodes in
    let few = c.requires.few in
    let size = m.held.ok.0 in
    omega arith
