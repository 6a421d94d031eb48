use Rattle.std.proofs.Common.{sym, ap, ◌∙◌}
use Rattle.std.specs.Prelude.{option_map, option_copied}
use Rattle.pat_core.specs.Views.{program_view}
use Rattle.pat_reduce.specs.threads.ThreadViews.{thread_view}
use Rattle.pat_machine_indexes.proofs.Noting.{settled_gone}
use Rattle.pat_machine_steps.proofs.wakeups.following.settle.Goals as goal

pub returns-in-None : goal.returns-in-None
returns-in-None c =
    settled_gone (program_view c.args.code.now.program) c.args.state.now.config c.args.waits.now c.remove.new.self c.args.thread
    (sym c.thread.ensures ∙ ap (λ o. option_map thread_view (option_copied o)) c.in-None.is)
    c.remove.ensures
