use Rattle.pat_checkpoint.proofs.Below.{started_there}
use Rattle.pat_checkpoint.proofs.laws.started_law.Goals as goal

pub returns : goal.returns
returns c = started_there c.replay_laws.ensures.replay c.made_laws.ensures.interfaces c.made_laws.ensures.counts
