use Rattle.pat_machine_indexes.proofs.Sorting.{copied_box}
use Rattle.pat_machine_indexes.proofs.messages.copies.copy_boxes.Goals as goal

pub loop-mailbox-preserved : goal.loop-mailbox-preserved
loop-mailbox-preserved c = copied_box c.args.mailboxes.now.mailboxes c.loop-mailbox.own c.copy_box.new.own c.loop-mailbox.mailbox c.loop-mailbox.invariant c.in_ok-copy_box.ensures
