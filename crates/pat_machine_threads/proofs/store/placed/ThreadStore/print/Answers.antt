use Rattle.std.proofs.Common.{◌≡◌, Some, sym, ap, ◌∙◌, subst}
use Rattle.pat_semantics_spec.specs.Configs.{Config, thread_at}
use Rattle.pat_semantics_spec.specs.Steps.{ActPrint}
use Rattle.pat_core.specs.Views.{program_view}
use Rattle.pat_reduce.specs.threads.ThreadViews.{thread_view}
use Rattle.pat_machine_threads.specs.store.ThreadStore.{placed_view}
use Rattle.pat_machine_threads.specs.store.Steps.{IsTaken}
use Rattle.pat_machine_threads.proofs.InPlace.{is_said}
use Rattle.pat_machine_threads.proofs.store.placed.ThreadStore.print.Goals as goal

pub returns-in_ok-push-in-Ok : goal.returns-in_ok-push-in-Ok
returns-in_ok-push-in-Ok c =
    let i = c.self.inside in
    let p = program_view c.args.code.now.program in
    let t = c.args.thread in
    let s = thread_view c.in-Some.state.now in
    let there : thread_at (placed_view i.config i.table) t ≡ Some s = sym c.in-Some.ensures in
    let none = ap (λ (d : Config). d.messages) c.self.view_is ∙ c.requires in
    subst (λ d. IsTaken p d (record { thread = t; act = ActPrint }) (placed_view (record i.config { printed = c.push.new.self }) c.set_control.new.self)) c.self.view_is
    (is_said p i.config i.table c.set_control.new.self t s there (c.set_control.ensures.after s there) c.in-Ok.line c.in-Ok.ensures none c.push.new.self c.in_ok-push-in-Ok.ensures.ok)
