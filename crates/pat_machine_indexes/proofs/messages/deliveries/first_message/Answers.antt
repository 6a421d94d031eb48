use Rattle.std.proofs.Common.{None, Some, sym, ap, ◌∙◌}
use Rattle.std.specs.Prelude.{find}
use Rattle.pat_reduce.specs.threads.ThreadViews.{message_view}
use Rattle.pat_reduce.specs.threads.GuardViews.{guard_view}
use Rattle.pat_reduce.specs.threads.ThreadActs.{takes}
use Rattle.pat_machine_indexes.proofs.Boxed.{none_pending}
use Rattle.pat_machine_indexes.proofs.Delivering.{number_in}
use Rattle.pat_machine_indexes.proofs.messages.deliveries.first_message.Goals as goal

pub returns-then-not-is_live : goal.returns-then-not-is_live
returns-then-not-is_live c =
    let g = guard_view c.args.guard.now in
    let ms = c.args.mailboxes.now.mailboxes in
    number_in ms c.requires g None (ap (find (λ m. takes g (message_view m))) (none_pending ms g.mailbox (sym c.is_live.ensures ∙ c.if-not-is_live.true)))

pub returns-in-Some : goal.returns-in-Some
returns-in-Some c =
    let g = guard_view c.args.guard.now in
    let ms = c.args.mailboxes.now.mailboxes in
    number_in ms c.requires g (Some c.in-Some.message.now) (sym c.in-Some.ensures.first)

pub returns-in-None : goal.returns-in-None
returns-in-None c =
    let g = guard_view c.args.guard.now in
    let ms = c.args.mailboxes.now.mailboxes in
    number_in ms c.requires g None (sym c.in-None.ensures.first)
