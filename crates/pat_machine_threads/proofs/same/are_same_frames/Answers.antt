use Rattle.pat_reduce.specs.threads.ThreadViews.{frame_view}
use Rattle.pat_machine_threads.proofs.Sames.{same_at}
use Rattle.pat_machine_threads.proofs.same.are_same_frames.Goals as goal

pub returns-then-not-is_same_frame-clause-other : goal.returns-then-not-is_same_frame-clause-other
returns-then-not-is_same_frame-clause-other c = λ no same.
    c.is_same_frame.ensures.other c.if-not-is_same_frame.true
    (same_at frame_view c.args.first.now c.args.second.now c.loop-i.i c.index-first-i.result c.index-second-i.result same c.loop-i-test.true c.index-first-i.is c.index-second-i.is)
