use Rattle.pat_examples.proofs.Starved.{waiting_formed, waiting_fails}
use Rattle.pat_examples.proofs.safety.failing_guards.Goals as goal

pub returns : goal.returns
returns c = record { formed = waiting_formed; fails = waiting_fails }
