use Rattle.std.proofs.Common.{[], sym, subst, List}
use Rattle.pat_mailboxes.specs.queues.Chained.{IsLinked}
use Rattle.pat_mailboxes.specs.declared.queues.chains.Chain.{Chain}
use Rattle.pat_mailboxes.proofs.Linking.{added_queue}
use Rattle.pat_mailboxes.proofs.queues.chains.Chains.add_queue.Goals as goal

pub returns-clause-chained : goal.returns-clause-chained
returns-clause-chained c =
    let m = c.args.self.now in
    subst (λ (qs : List Chain). IsLinked m.links.items m.first_free m.spare qs []) (sym c.in_ok-push.ensures.items)
    (added_queue m.links.items m.first_free m.spare m.queues.items c.requires)
