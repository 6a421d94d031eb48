use Rattle.std.proofs.Common.{[], ◌∷◌, length, get_or, arith, refl, ap, ◌∙◌, length-append}
use Rattle.pat_mailboxes.specs.queues.Pooled.{contents}
use Rattle.pat_mailboxes.proofs.ChainLaws.{get_empty}
use Rattle.pat_mailboxes.proofs.Holding.{length_contents}
use Rattle.pat_mailboxes.proofs.queues.region.Region.add_queues.Goals as goal

pub loop-init : goal.loop-init
loop-init g c =
    let r = c.args.self.now in
    let size = length_contents r in
    let items = r.chains.queues.ok.0 in
    let len = c.len-counter.ensures in
    record { region = c.requires; spare = refl; count = omega arith; more = omega arith; same = λ q. refl }

pub loop-preserved : goal.loop-preserved
loop-preserved g c =
    let i = c.loop.invariant in
    let new = c.in_ok-add_queue.ensures.ok in
    let longer = ap length new ∙ length-append (contents c.loop.self) ([] ∷ []) in
    let count = i.count in
    let more = i.more in
    record {
      region = c.add_queue.ensures.region;
      spare = c.add_queue.ensures.spare ∙ i.spare;
      count = omega arith;
      more = omega arith;
      same = λ q. ap (λ qs. get_or qs q []) new ∙ get_empty (contents c.loop.self) q ∙ i.same q;
    }
