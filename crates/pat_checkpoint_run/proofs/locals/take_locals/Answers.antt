use Rattle.pat_core.specs.Views.{program_view}
use Rattle.pat_checkpoint_run.proofs.LocalsTaken.{taken_if_ok}
use Rattle.pat_checkpoint_run.proofs.locals.take_locals.Goals as goal

pub returns : goal.returns
returns c = taken_if_ok (program_view c.args.code.now.program) c.args.allowance c.run_locally.result _ c.args.config.now c.args.turn c.index_mut.result.now c.run_locally.new.state c.config.view_is c.requires.ordered c.requires.place c.index_mut.ensures.value c.run_locally.ensures
