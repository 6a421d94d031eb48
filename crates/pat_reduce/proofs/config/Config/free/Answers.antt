use Rattle.pat_reduce.specs.threads.Views.{program_view}
use Rattle.pat_reduce.proofs.Taken.{free_done, free_refused}
use Rattle.pat_reduce.proofs.config.Config.free.Goals as goal

pub returns-in-Ok : goal.returns-in-Ok
returns-in-Ok c = free_done (program_view c.args.code.now.program) c.args.self.now c.as_slice.result.now c.args.thread c.args.place c.state_at-state.result.now c.as_slice.ensures c.requires c.state_at-state.ensures c.in-Ok.control c.set_control.new.threads c.set_control.ensures c.in-Ok.mailbox c.in-Ok.ensures c.remove_mailbox.new.live c.remove_mailbox.ensures

pub returns-in-Err : goal.returns-in-Err
returns-in-Err c = free_refused (program_view c.args.code.now.program) c.args.self.now c.as_slice.result.now c.args.thread c.args.place c.state_at-state.result.now c.as_slice.ensures c.requires c.state_at-state.ensures c.in-Err.error c.in-Err.ensures
