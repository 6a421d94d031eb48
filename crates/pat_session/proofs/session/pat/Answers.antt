use Rattle.pat_session.proofs.Promised.{promised}
use Rattle.pat_session.proofs.session.pat.Goals as goal

pub returns-clause-promises : goal.returns-clause-promises
returns-clause-promises g c = promised _ _ _ _ _ c.dispatch.result c.complete_law.ensures c.dispatch.ensures.call c.dispatch.ensures.no_command c.dispatch.ensures.helped
