use Rattle.pat_reduce.specs.threads.Views.{program_view}
use Rattle.pat_reduce.proofs.Taken.{new_done}
use Rattle.pat_reduce.proofs.config.Config.make_mailbox.Goals as goal

pub returns : goal.returns
returns c = new_done (program_view c.args.code.now.program) c.args.self.now c.as_slice.result.now c.args.thread c.args.place c.state_at-state.result.now c.as_slice.ensures c.requires.place c.state_at-state.ensures c.set_control.new.threads c.set_control.ensures c.makes_mailbox.result c.makes_mailbox.ensures c.if-not-makes_mailbox.false c.push.new.self c.in_ok-push.ensures.ok
