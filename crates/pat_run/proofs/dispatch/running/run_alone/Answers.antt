use Rattle.std.proofs.lemmas.Result.{IfOk-weaker}
use Rattle.pat_run.proofs.Given.{alone_gives}
use Rattle.pat_run.proofs.dispatch.running.run_alone.Goals as goal

pub returns : goal.returns
returns c = IfOk-weaker c.run.result _ _ (λ f gives. alone_gives c.args.accepted c.args.options f c.requires.workers.0 gives) c.run.ensures
