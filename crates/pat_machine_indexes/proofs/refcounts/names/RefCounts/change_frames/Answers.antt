use Rattle.pat_machine_indexes.proofs.Turns.{fits_one, turns}
use Rattle.pat_machine_indexes.proofs.Sums.{frames_left}
use Rattle.pat_machine_indexes.proofs.refcounts.names.RefCounts.change_frames.Goals as goal

pub change_env-requires : goal.change_env-requires
change_env-requires c =
    fits_one c.args.change c.loop-frame.self _ _ _
    (frames_left c.args.frames.now c.loop-frame.frame-index c.frame-item.result _ c.loop-frame-test.true c.frame-item.is c.as_slice.ensures)
    c.loop-frame.invariant.fits

pub loop-frame-preserved : goal.loop-frame-preserved
loop-frame-preserved c =
    turns _ _ _ _ c.loop-frame.invariant
    (frames_left c.args.frames.now c.loop-frame.frame-index c.frame-item.result _ c.loop-frame-test.true c.frame-item.is c.as_slice.ensures)
    c.change_env.ensures
