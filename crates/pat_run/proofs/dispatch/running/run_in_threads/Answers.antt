use Rattle.pat_run.proofs.Given.{several_give}
use Rattle.pat_run.proofs.dispatch.running.run_in_threads.Goals as goal

pub returns : goal.returns
returns g c = several_give c.args.accepted c.args.options c.in_ok-finished.finished c.if-workers-eq1.false c.in_ok-finished.ensures
