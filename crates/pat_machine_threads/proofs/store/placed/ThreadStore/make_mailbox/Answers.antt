use Rattle.std.proofs.Common.{◌≡◌, ◌+◌, Some, sym, ◌∙◌, subst}
use Rattle.pat_semantics_spec.specs.Configs.{thread_at}
use Rattle.pat_core.specs.Views.{program_view}
use Rattle.pat_reduce.specs.threads.ThreadViews.{thread_view}
use Rattle.pat_machine_threads.specs.store.ThreadStore.{placed_view}
use Rattle.pat_machine_threads.specs.store.InPlace.{IsMade}
use Rattle.pat_machine_threads.proofs.InPlace.{is_made}
use Rattle.pat_machine_threads.proofs.store.placed.ThreadStore.make_mailbox.Goals as goal

pub returns-else-not-makes_mailbox : goal.returns-else-not-makes_mailbox
returns-else-not-makes_mailbox c =
    let i = c.self.inside in
    let p = program_view c.args.code.now.program in
    let t = c.args.thread in
    let s = thread_view c.in-Some.state.now in
    let there : thread_at (placed_view i.config i.table) t ≡ Some s = sym c.in-Some.ensures in
    subst (λ d. IsMade p d t (placed_view (record i.config { next_mailbox = i.config.next_mailbox + 1 }) c.set_control.new.self)) c.self.view_is
    (is_made p i.config i.table c.set_control.new.self t s there (c.set_control.ensures.after s there) (sym c.makes_mailbox.ensures ∙ c.if-not-makes_mailbox.false))
