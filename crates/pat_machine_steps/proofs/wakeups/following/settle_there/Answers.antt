use Rattle.pat_reduce.specs.threads.ThreadViews.{thread_view}
use Rattle.pat_core.specs.Views.{program_view}
use Rattle.pat_machine_indexes.proofs.Noting.{settled_asleep, settled_awake, settled_held}
use Rattle.pat_machine_steps.proofs.wakeups.following.settle_there.Goals as goal

pub put_to_sleep-requires-clause-free : goal.put_to_sleep-requires-clause-free
put_to_sleep-requires-clause-free c = c.is_free.ensures.0 c.if-is_free.true

pub returns-in-Some : goal.returns-in-Some
returns-in-Some c =
    settled_asleep (program_view c.args.code.now.program) c.args.state.now.config c.args.waits.now c.put_to_sleep.new.self c.args.thread c.in-Some.mailbox c.in-Some.ensures c.put_to_sleep.ensures

pub returns-in-Some-2 : goal.returns-in-Some-2
returns-in-Some-2 c = settled_awake (program_view c.args.code.now.program) c.args.state.now.config c.args.waits.now c.add.new.self c.args.thread c.add.ensures

pub returns-in-None : goal.returns-in-None
returns-in-None c =
    let p = program_view c.args.code.now.program in
    settled_held p c.args.state.now.config c.args.waits.now c.hold.new.self c.args.thread (thread_view c.args.own.now, c.requires.own, c.is_about_to_send.ensures c.if-is_about_to_send.true) c.hold.ensures

pub returns-in-None-2 : goal.returns-in-None-2
returns-in-None-2 c = settled_awake (program_view c.args.code.now.program) c.args.state.now.config c.args.waits.now c.add-in-None-2.new.self c.args.thread c.add-in-None-2.ensures
