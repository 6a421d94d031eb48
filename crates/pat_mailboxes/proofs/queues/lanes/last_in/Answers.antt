use Rattle.std.proofs.Common.{◌≡◌, ℕ, ◌-◌, [], get_or, arith, refl, subst, ap, ◌∙◌}
use Rattle.std.specs.Prelude.{option_copied}
use Rattle.pat_mailboxes.specs.queues.Lanes.{merged, lanes_from, last_of}
use Rattle.pat_mailboxes.specs.queues.Pooled.{contents}
use Rattle.pat_mailboxes.proofs.LaneLoops.{last_more}
use Rattle.pat_mailboxes.proofs.queues.lanes.last_in.Goals as goal

pub loop-lane-init : goal.loop-lane-init
loop-lane-init c = (omega arith, refl)

pub loop-lane-preserved : goal.loop-lane-preserved
loop-lane-preserved c =
    let l = c.loop-lane in
    let some = c.loop-lane-test.true in
    let within = l.invariant.0 in
    let cs = contents c.args.region.now in (
      omega arith,
      last_more cs c.args.queue (l.lane - 1) l.lane (omega arith) within _ _ _ c.requires.lanes (c.last_of.ensures ∙ ap (λ k. last_of (get_or cs k [])) c.chain_of.ensures) l.invariant.1 c.later-last.ensures,
    )

pub returns : goal.returns
returns c =
    let l = c.loop-lane in
    let done = c.loop-lane-test.false in
    let none : l.lane ≡ 0 = omega arith in
    subst (λ (n : ℕ). option_copied l.last ≡ last_of (merged (lanes_from (contents c.args.region.now) c.args.queue n (8 - n)))) none l.invariant.1
