use Rattle.std.specs.Prelude.{option_map, option_copied}
use Rattle.pat_core.specs.Views.{program_view}
use Rattle.pat_reduce.specs.threads.ThreadViews.{message_view}
use Rattle.pat_reduce.specs.Views.{act_view}
use Rattle.pat_machine_indexes.proofs.Noting.{all_noted, frees_woken}
use Rattle.pat_machine_steps.proofs.wakeups.following.follow.Goals as goal

pub follow_others-requires-clause-were : goal.follow_others-requires-clause-were
follow_others-requires-clause-were c =
    let s = c.args.stepped.now in
    frees_woken (program_view c.args.code.now.program) c.args.waits.now c.wake_freeing.new.waits s.thread s.newcomer (option_map act_view s.shared) c.args.state.now.config s.named.now (option_map message_view (option_copied s.received))
    c.requires.were c.wake_freeing.ensures

pub returns : goal.returns
returns c = all_noted (program_view c.args.code.now.program) c.follow_others.new.waits c.settle.new.waits c.args.stepped.now.thread c.args.state.now.config c.follow_others.ensures.others c.settle.ensures
