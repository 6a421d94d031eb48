use Rattle.std.proofs.Common.{nat_eq, sym, ap, ◌∙◌}
use Rattle.std.specs.Prelude.{find}
use Rattle.pat_mailboxes.specs.Mailboxes.{pending_at as pending_of}
use Rattle.pat_machine_indexes.proofs.Boxed.{none_pending, is_live}
use Rattle.pat_machine_indexes.proofs.Delivering.{none_of, numbered_of}
use Rattle.pat_machine_indexes.proofs.messages.deliveries.find_numbered.Goals as goal

pub returns-then-not-is_live-clause-none : goal.returns-then-not-is_live-clause-none
returns-then-not-is_live-clause-none c =
    ap (find (λ m. nat_eq c.args.number m.number)) (none_pending c.args.mailboxes.now.mailboxes c.args.guard.now.mailbox (sym c.is_live.ensures ∙ c.if-not-is_live.true))

pub returns-in-None-clause-there : goal.returns-in-None-clause-there
returns-in-None-clause-there c = numbered_of c.args.number (pending_of c.args.mailboxes.now.mailboxes c.args.guard.now.mailbox) c.find.result c.find.ensures.first

pub returns-in-None-clause-none : goal.returns-in-None-clause-none
returns-in-None-clause-none c = none_of (λ m. nat_eq c.args.number m.number) (pending_of c.args.mailboxes.now.mailboxes c.args.guard.now.mailbox) c.find.result c.find.ensures.first
