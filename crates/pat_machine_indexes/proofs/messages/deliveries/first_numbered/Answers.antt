use Rattle.std.proofs.Common.{sym}
use Rattle.pat_reduce.specs.threads.ThreadViews.{message_view}
use Rattle.pat_reduce.specs.threads.GuardViews.{guard_view}
use Rattle.pat_reduce.specs.threads.ThreadActs.{takes}
use Rattle.pat_mailboxes.specs.Mailboxes.{pending_at as pending_of}
use Rattle.pat_machine_indexes.proofs.Delivering.{found_place, numbered_by}
use Rattle.pat_machine_indexes.proofs.messages.deliveries.first_numbered.Goals as goal

pub returns-in-Some : goal.returns-in-Some
returns-in-Some c =
    let ms = pending_of c.args.mailboxes.now.mailboxes c.args.guard.now.mailbox in
    let found = found_place (λ m. takes (guard_view c.args.guard.now) (message_view m)) ms c.in-Some.message.now (sym c.in-Some.ensures.first) in
    numbered_by ms c.args.number c.in-Some.message.now (found.0, found.1) c.with_number.result c.with_number.ensures
