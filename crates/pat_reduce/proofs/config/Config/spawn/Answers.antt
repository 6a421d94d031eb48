use Rattle.pat_reduce.specs.threads.Views.{program_view}
use Rattle.pat_reduce.proofs.Taken.{spawn_done, still_within}
use Rattle.pat_reduce.proofs.config.Config.spawn.Goals as goal

pub set_control-requires : goal.set_control-requires
set_control-requires c = still_within (program_view c.args.code.now.program) c.args.self.now c.as_slice.result.now c.args.thread c.args.place c.state_at-state.result.now c.as_slice.ensures c.requires.place c.state_at-state.ensures c.push_thread.new.threads _ c.in_ok-push_thread-in-Ok.ensures.ok

pub returns-in_ok-push_thread-in-Ok : goal.returns-in_ok-push_thread-in-Ok
returns-in_ok-push_thread-in-Ok c = spawn_done (program_view c.args.code.now.program) c.args.self.now c.as_slice.result.now c.args.thread c.args.place c.state_at-state.result.now c.as_slice.ensures c.requires.place c.state_at-state.ensures c.in-Ok.control c.push_thread.new.threads c.set_control.new.threads c.in_ok-push_thread-in-Ok.ensures.ok c.set_control.ensures c.in-Ok.ensures
