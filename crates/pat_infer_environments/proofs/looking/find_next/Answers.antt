use Rattle.std.proofs.Common.{◌∙◌}
use Rattle.pat_infer_environments.proofs.LookUps.{need_in}
use Rattle.pat_infer_environments.proofs.looking.find_next.Goals as goal

pub returns-clause-found : goal.returns-clause-found
returns-clause-found c = c.find.ensures ∙ need_in c.args.needs.now c.skip_lesser-place.result c.args.variable c.skip_lesser-place.ensures.front
