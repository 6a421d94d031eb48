use Rattle.std.proofs.Common.{◌≡◌, Some, subst, sym, add-one}
use Rattle.pat_core.specs.Views.{program_view}
use Rattle.pat_reduce.specs.threads.ThreadViews.{thread_view}
use Rattle.pat_machine_spec.specs.Commits.{locally}
use Rattle.pat_machine_laws.proofs.Locals.{one_more_local}
use Rattle.pat_checkpoint_run.proofs.locals.run_locally.Goals as goal

pub loop-steps-preserved : goal.loop-steps-preserved
loop-steps-preserved c =
    subst (λ k. locally (program_view c.args.code.now.program) k (thread_view c.args.state.now) ≡ Some (thread_view c.step_locally.new.self)) (sym (add-one c.loop-steps.steps))
    (one_more_local (program_view c.args.code.now.program) c.loop-steps.steps (thread_view c.args.state.now) (thread_view c.loop-steps.state) (thread_view c.step_locally.new.self) c.loop-steps.invariant c.in-Ok.ensures)
