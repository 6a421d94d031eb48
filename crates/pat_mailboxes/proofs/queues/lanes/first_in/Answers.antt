use Rattle.std.proofs.Common.{◌≡◌, ℕ, ◌-◌, arith, refl, subst}
use Rattle.std.specs.Prelude.{find, option_copied}
use Rattle.pat_mailboxes.specs.queues.Lanes.{merged, lanes_from}
use Rattle.pat_mailboxes.specs.queues.Pooled.{contents}
use Rattle.pat_mailboxes.proofs.LaneLoops.{first_more}
use Rattle.pat_mailboxes.proofs.queues.lanes.first_in.Goals as goal

pub loop-lane-init : goal.loop-lane-init
loop-lane-init g c = (omega arith, refl)

pub loop-lane-preserved : goal.loop-lane-preserved
loop-lane-preserved g c =
    let l = c.loop-lane in
    let some = c.loop-lane-test.true in
    let within = l.invariant.0 in (
      omega arith,
      first_more (contents c.args.region.now) c.args.queue (l.lane - 1) l.lane (omega arith) within (g.P.Test.passes c.args.test.now) _ _ _ c.requires.lanes c.first_of.ensures l.invariant.1 c.earlier-first.ensures,
    )

pub returns : goal.returns
returns g c =
    let l = c.loop-lane in
    let done = c.loop-lane-test.false in
    let none : l.lane ≡ 0 = omega arith in
    subst (λ (n : ℕ). option_copied l.first ≡ find (g.P.Test.passes c.args.test.now) (merged (lanes_from (contents c.args.region.now) c.args.queue n (8 - n)))) none l.invariant.1
