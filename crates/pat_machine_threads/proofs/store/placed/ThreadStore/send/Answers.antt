use Rattle.std.proofs.Common.{◌≡◌, ◌+◌, Some, sym, subst}
use Rattle.pat_semantics_spec.specs.Configs.{thread_at}
use Rattle.pat_core.specs.Views.{program_view}
use Rattle.pat_reduce.specs.threads.ThreadViews.{message_view, thread_view}
use Rattle.pat_machine_threads.specs.store.ThreadStore.{placed_view}
use Rattle.pat_machine_threads.specs.store.InPlace.{IsSent}
use Rattle.pat_machine_threads.proofs.InPlace.{is_sent}
use Rattle.pat_machine_threads.proofs.store.placed.ThreadStore.send.Goals as goal

pub returns-in-Ok : goal.returns-in-Ok
returns-in-Ok c =
    let i = c.self.inside in
    let p = program_view c.args.code.now.program in
    let t = c.args.thread in
    let s = thread_view c.in-Some.state.now in
    let there : thread_at (placed_view i.config i.table) t ≡ Some s = sym c.in-Some.ensures in
    let m = message_view c.in-Ok.message in
    subst (λ d. IsSent p d t m (placed_view (record i.config { next_message = i.config.next_message + 1 }) c.set_control.new.self)) c.self.view_is
    (is_sent p i.config i.table c.set_control.new.self t s there (c.set_control.ensures.after s there) m c.in-Ok.ensures)
