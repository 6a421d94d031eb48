use Rattle.std.proofs.Common.{subst}
use Rattle.pat_session.specs.Allowed.{IsCommand}
use Rattle.pat_session.proofs.Calls.{call_help, helps}
use Rattle.pat_session.proofs.session.obey.Goals as goal

pub returns-in-Help-clause-call : goal.returns-in-Help-clause-call
returns-in-Help-clause-call g c = λ words asked. call_help words _ _ _ c.written.result c.written.ensures (subst (λ d. IsCommand d words) c.in-Help.is asked)

pub returns-in-Help-clause-helped : goal.returns-in-Help-clause-helped
returns-in-Help-clause-helped g c = λ is. helps _ _ c.written.result c.written.ensures
