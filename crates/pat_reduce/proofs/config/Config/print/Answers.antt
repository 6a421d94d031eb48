use Rattle.pat_reduce.specs.threads.Views.{program_view}
use Rattle.pat_reduce.proofs.Taken.{print_done}
use Rattle.pat_reduce.proofs.config.Config.print.Goals as goal

pub returns-in_ok-push-in-Ok : goal.returns-in_ok-push-in-Ok
returns-in_ok-push-in-Ok c = print_done (program_view c.args.code.now.program) c.args.self.now c.as_slice.result.now c.args.thread c.args.place c.state_at-state.result.now c.as_slice.ensures c.requires c.state_at-state.ensures c.set_control.new.threads c.set_control.ensures c.in-Ok.line c.in-Ok.ensures c.push.new.self c.in_ok-push-in-Ok.ensures.ok
