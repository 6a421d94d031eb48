use Rattle.pat_session.proofs.Promised.{promised}
use Rattle.pat_session.proofs.session.pat_alone.Goals as goal

pub returns-clause-promises : goal.returns-clause-promises
returns-clause-promises g c = promised _ _ _ _ _ c.alone.result c.complete_law.ensures c.alone.ensures.call c.alone.ensures.no_command c.alone.ensures.helped
