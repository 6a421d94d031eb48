use Rattle.std.proofs.Common.{◌≡◌, Some, sym, subst}
use Rattle.pat_semantics_spec.specs.Configs.{thread_at}
use Rattle.pat_core.specs.Views.{program_view}
use Rattle.pat_reduce.specs.threads.ThreadViews.{control_view, thread_view}
use Rattle.pat_machine_threads.specs.store.ThreadStore.{placed_view}
use Rattle.pat_machine_threads.specs.store.InPlace.{IsFreed}
use Rattle.pat_machine_threads.proofs.InPlace.{is_freed}
use Rattle.pat_machine_threads.proofs.store.placed.ThreadStore.free.Goals as goal

pub returns-in-Ok : goal.returns-in-Ok
returns-in-Ok c =
    let i = c.self.inside in
    let p = program_view c.args.code.now.program in
    let t = c.args.thread in
    let s = thread_view c.in-Some.state.now in
    let there : thread_at (placed_view i.config i.table) t ≡ Some s = sym c.in-Some.ensures in
    subst (λ d. IsFreed p d t c.in-Ok.mailbox (placed_view i.config c.set_control.new.self)) c.self.view_is
    (is_freed p i.config i.table c.set_control.new.self t s there (control_view c.in-Ok.control) (c.set_control.ensures.after s there) c.in-Ok.mailbox c.in-Ok.ensures)
