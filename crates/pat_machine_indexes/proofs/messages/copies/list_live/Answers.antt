use Rattle.pat_machine_indexes.proofs.Listing.{listed_more}
use Rattle.pat_machine_indexes.proofs.messages.copies.list_live.Goals as goal

pub loop-mailbox-preserved : goal.loop-mailbox-preserved
loop-mailbox-preserved c = listed_more c.args.mailboxes.now.mailboxes c.loop-mailbox.own c.list_box.new.own c.loop-mailbox.mailbox c.loop-mailbox.invariant c.in_ok-list_box.ensures
