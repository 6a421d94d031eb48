use Rattle.pat_replay.proofs.Walks.{turns, ends, frames_left, frames_end}
use Rattle.pat_replay.proofs.names.change_frames.Goals as goal

pub loop-frame-preserved : goal.loop-frame-preserved
loop-frame-preserved c =
    turns c.args.change _ _ _ _ _ _ _ c.loop-frame.invariant
    (frames_left c.args.frames.now c.loop-frame.frame-index c.frame-item.result _ c.loop-frame-test.true c.frame-item.is c.as_slice.ensures)
    (c.change_env.ensures c.if-not-change_env.false)

pub returns : goal.returns
returns c = λ yes. ends c.args.change _ _ _ _ c.loop-frame.invariant (frames_end c.args.frames.now c.loop-frame.frame-index c.loop-frame-test.false)
