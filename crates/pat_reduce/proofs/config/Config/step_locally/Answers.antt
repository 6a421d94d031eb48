use Rattle.pat_reduce.specs.threads.Views.{program_view}
use Rattle.pat_reduce.proofs.Places.{local_at_place}
use Rattle.pat_reduce.proofs.config.Config.step_locally.Goals as goal

pub returns : goal.returns
returns c = local_at_place (program_view c.args.code.now.program) _ c.args.self.now c.args.thread c.args.place c.index_mut.result.now c.self.view_is c.requires c.index_mut.ensures.value c.step_locally.new.self c.step_locally.result c.step_locally.ensures
