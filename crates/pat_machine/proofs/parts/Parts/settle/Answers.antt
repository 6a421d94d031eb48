use Rattle.std.proofs.Common.{refl, ap, ◌∙◌, sym, subst}
use Rattle.std.specs.Prelude.{option_map, option_copied}
use Rattle.pat_core.specs.Views.{program_view}
use Rattle.pat_reduce.specs.threads.ThreadViews.{thread_view}
use Rattle.pat_machine_spec.specs.Commits.{IsLocalRun}
use Rattle.pat_machine_steps.specs.shared_steps.Settling.{IsSettled}
use Rattle.pat_machine_threads.proofs.Settlings.{run_on_enough}
use Rattle.pat_machine.proofs.parts.Parts.settle.Goals as goal

pub returns-then-is_top : goal.returns-then-is_top
returns-then-is_top c =
    let p = program_view c.args.self.now.code.program in
    let a = c.args.job.allowance in
    let x = thread_view c.in-Some.kept.now in
    let there = sym c.thread.ensures ∙ ap (λ o. option_map thread_view (option_copied o)) c.in-Some.is in
    let on_top = subst (λ w. IsLocalRun p a w c.args.run.steps (thread_view c.args.run.end)) (c.is_top.ensures.same c.if-is_top.true) c.requires.run in
    subst (λ s. IsSettled p c.args.self.now.state.config c.args.job.thread a s) (sym c.ended.ensures)
    (record { kept = x; there = there; run = run_on_enough p a x (record { end = c.args.run.end; gone = a; steps = c.args.run.steps }) refl on_top })
