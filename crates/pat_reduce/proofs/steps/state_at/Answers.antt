use Rattle.pat_reduce.proofs.Taken.{stands}
use Rattle.pat_reduce.proofs.steps.state_at.Goals as goal

pub returns : goal.returns
returns c = stands c.args.threads.now c.args.thread c.args.place c.index-threads-place.result c.requires c.index-threads-place.is
