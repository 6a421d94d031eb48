use Rattle.pat_replay.proofs.Halves.{stands}
use Rattle.pat_replay.proofs.places.state_at.Goals as goal

pub returns : goal.returns
returns c = stands c.args.threads.now c.args.thread c.args.place c.index-threads-place.result c.requires c.index-threads-place.is
