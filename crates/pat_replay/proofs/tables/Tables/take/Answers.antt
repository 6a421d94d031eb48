use Rattle.pat_core.specs.Views.{program_view}
use Rattle.pat_reduce.specs.Views.{act_view}
use Rattle.pat_replay.proofs.Counted.{shared_counted}
use Rattle.pat_replay.proofs.tables.Tables.take.Goals as goal

pub returns-in-Ok-clause-known : goal.returns-in-Ok-clause-known
returns-in-Ok-clause-known c = λ yes.
    let follows = c.follow.ensures.counted yes in
    let leaves = c.leave_control.ensures follows.0 in
    shared_counted (program_view c.args.code.now.program) c.args.self.now.state.config c.step.new.self.config c.args.step.now.thread (act_view c.args.step.now.act)
    c.args.self.now.names.counts.times.items c.leave_control.new.self.counts.times.items c.follow.new.self.counts.times.items
    c.requires.ordered c.requires.can.shared c.in-Ok.ensures.step (c.requires.known leaves.0) leaves.1 (c.follow.ensures.ended yes)
    (follows.1 c.args.self.now.state.config c.threads_made-newcomer.ensures c.in-Ok.ensures.message)
