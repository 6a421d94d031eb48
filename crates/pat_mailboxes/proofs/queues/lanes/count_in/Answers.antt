use Rattle.std.proofs.Common.{◌≡◌, ℕ, ◌-◌, [], length, get_or, arith, refl, subst, ap, ◌∙◌}
use Rattle.pat_mailboxes.specs.queues.Lanes.{merged, lanes_from}
use Rattle.pat_mailboxes.specs.queues.Pooled.{contents}
use Rattle.pat_mailboxes.proofs.LaneChains.{others_within}
use Rattle.pat_mailboxes.proofs.LaneLoops.{count_more}
use Rattle.pat_mailboxes.proofs.queues.lanes.count_in.Goals as goal

pub loop-lane-init : goal.loop-lane-init
loop-lane-init c = (omega arith, refl)

pub overflow_add-count : goal.overflow_add-count
overflow_add-count c =
    let l = c.loop-lane in
    let some = c.loop-lane-test.true in
    let within = l.invariant.0 in
    let so_far = l.invariant.1 in
    let cs = contents c.args.region.now in
    let own = c.len-count.ensures ∙ ap (λ k. length (get_or cs k [])) c.chain_of.ensures in
    let more = count_more cs c.args.queue (l.lane - 1) l.lane (omega arith) within in
    let all = others_within cs c.args.queue (l.lane - 1) (omega arith) in
    let few = c.requires.few in
    let fits = c.ranges.most.fits in
    omega arith

pub loop-lane-preserved : goal.loop-lane-preserved
loop-lane-preserved c =
    let l = c.loop-lane in
    let some = c.loop-lane-test.true in
    let within = l.invariant.0 in
    let so_far = l.invariant.1 in
    let cs = contents c.args.region.now in
    let own = c.len-count.ensures ∙ ap (λ k. length (get_or cs k [])) c.chain_of.ensures in
    let more = count_more cs c.args.queue (l.lane - 1) l.lane (omega arith) within in
    (omega arith, omega arith)

pub returns : goal.returns
returns c =
    let l = c.loop-lane in
    let done = c.loop-lane-test.false in
    let none : l.lane ≡ 0 = omega arith in
    subst (λ (n : ℕ). l.count ≡ length (merged (lanes_from (contents c.args.region.now) c.args.queue n (8 - n)))) none l.invariant.1
