use Rattle.pat_obligations.proofs.Entries.{payloads_done}
use Rattle.pat_obligations.proofs.asking.push_payloads.Goals as goal

pub returns-in-None : goal.returns-in-None
returns-in-None c = payloads_done _ _ _ _ c.loop-name.invariant c.in-None.ensures.cases
