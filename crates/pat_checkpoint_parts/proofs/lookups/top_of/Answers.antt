use Rattle.pat_checkpoint_parts.proofs.Turns.{top_there}
use Rattle.pat_checkpoint_parts.proofs.lookups.top_of.Goals as goal

pub returns-clause-some : goal.returns-clause-some
returns-clause-some c = top_there c.args.frames.now c.last.result c.last.ensures.value
