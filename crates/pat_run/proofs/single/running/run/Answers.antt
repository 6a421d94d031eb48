use Rattle.pat_run.proofs.Serving.{run_gives}
use Rattle.pat_run.proofs.single.running.run.Goals as goal

pub returns : goal.returns
returns c =
    run_gives c.args.accepted c.args.steps c.args.messages c.in_ok-machine.machine c.run.new.self c.in_ok-run.ensures.ok.0 c.outcome_of-outcome.result c.in_ok-machine.ensures c.in_ok-run.ensures.ok.1 c.outcome_of-outcome.ensures
