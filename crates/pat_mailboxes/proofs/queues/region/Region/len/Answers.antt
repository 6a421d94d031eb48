use Rattle.std.proofs.Common.{sym, ◌∙◌, arith}
use Rattle.std.proofs.lemmas.List.{length-map}
use Rattle.pat_mailboxes.specs.queues.Chained.{queue_nodes}
use Rattle.pat_mailboxes.specs.queues.Pooled.{values_of}
use Rattle.pat_mailboxes.proofs.ChainLaws.{chain_is}
use Rattle.pat_mailboxes.proofs.Linking.{own_length}
use Rattle.pat_mailboxes.proofs.Holding.{queue_length}
use Rattle.pat_mailboxes.proofs.queues.region.Region.len.Goals as goal

pub returns : goal.returns
returns g c =
    let m = c.args.self.now.chains in
    let held = c.args.self.now.held.items in
    let own = c.index.result.now in
    let there = c.requires.there in
    let size = length-map (queue_nodes m) (values_of held) in
    let is = chain_is m.links.items m.queues.items c.args.queue own (omega arith) c.index.ensures in
    sym (queue_length m held c.args.queue c.requires.region.holding ∙ own_length m.links.items m.first_free m.spare m.queues.items c.args.queue own is)
