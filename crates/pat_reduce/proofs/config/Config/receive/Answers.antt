use Rattle.pat_reduce.specs.threads.Views.{program_view}
use Rattle.pat_reduce.proofs.Taken.{receive_done, receive_refused}
use Rattle.pat_reduce.proofs.config.Config.receive.Goals as goal

pub returns-in-Ok : goal.returns-in-Ok
returns-in-Ok c = receive_done (program_view c.args.code.now.program) c.args.self.now c.as_slice.result.now c.args.thread c.args.place c.state_at-state.result.now c.as_slice.ensures c.requires c.state_at-state.ensures c.in-Ok.control c.set_control.new.threads c.set_control.ensures c.args.number c.as_slice-messages.result.now c.as_slice-messages.ensures c.in-Ok.ensures c.remove_message.new.messages c.remove_message.ensures

pub returns-in-Err : goal.returns-in-Err
returns-in-Err c = receive_refused (program_view c.args.code.now.program) c.args.self.now c.as_slice.result.now c.args.thread c.args.place c.state_at-state.result.now c.as_slice.ensures c.requires c.state_at-state.ensures c.args.number c.as_slice-messages.result.now c.as_slice-messages.ensures c.in-Err.error c.in-Err.ensures
