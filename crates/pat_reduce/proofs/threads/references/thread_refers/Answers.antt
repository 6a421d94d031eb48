use Rattle.pat_reduce.proofs.FramesReversed.{frames_too}
use Rattle.pat_reduce.proofs.threads.references.thread_refers.Goals as goal

pub returns-else-control_refers : goal.returns-else-control_refers
returns-else-control_refers c = frames_too c.args.mailbox c.args.state.now.control c.as_slice.result.now c.args.state.now.frames c.control_refers.result c.frames_refer.result c.control_refers.ensures c.if-control_refers.false c.as_slice.ensures c.frames_refer.ensures
