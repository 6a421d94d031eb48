use Rattle.pat_machine_indexes.proofs.Lists.{turns, ends}
use Rattle.pat_machine_indexes.proofs.Sums.{frames_left, frames_end}
use Rattle.pat_machine_indexes.proofs.refcounts.listing.list_frames.Goals as goal

pub loop-frame-preserved : goal.loop-frame-preserved
loop-frame-preserved c =
    turns _ _ _ _ c.loop-frame.invariant
    (frames_left c.args.frames.now c.loop-frame.frame-index c.frame-item.result _ c.loop-frame-test.true c.frame-item.is c.as_slice.ensures)
    c.in_ok-list_env.ensures

pub returns : goal.returns
returns c = ends _ c.loop-frame.invariant (frames_end c.args.frames.now c.loop-frame.frame-index c.loop-frame-test.false)
