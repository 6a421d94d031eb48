use Rattle.std.proofs.Common.{sym, ap, ◌∙◌}
use Rattle.pat_semantics_spec.specs.Configs.{Config, thread_at}
use Rattle.pat_reduce.specs.threads.ThreadViews.{thread_view}
use Rattle.pat_machine_threads.proofs.store.placed.ThreadStore.step_apart.Goals as goal

pub step_there-requires-clause-there : goal.step_there-requires-clause-there
step_there-requires-clause-there c = (thread_view c.in-Some.field-0.now, ap (λ (d : Config). thread_at d c.args.step.now.thread) (sym c.self.view_is) ∙ sym c.in-Some.ensures)
