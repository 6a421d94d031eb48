use Rattle.pat_infer_laws.proofs.ShownWalk.{inclusions_shown}
use Rattle.pat_infer_laws.proofs.shown_laws.Goals as goal

pub returns : goal.returns
returns c = record { shown = inclusions_shown c.environment_laws.ensures.unbound }
