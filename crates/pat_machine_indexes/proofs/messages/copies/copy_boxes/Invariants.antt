use Rattle.std.proofs.Common.{◌≡◌, map, take}
use Rattle.pat_reduce.specs.threads.ThreadViews.{message_view}
use Rattle.pat_machine_laws.specs.mailbox_index.Pending.{all_of}
use Rattle.pat_machine_indexes.specs.messages.Boxes.{boxes_view}
use Rattle.pat_machine_indexes.proofs.messages.copies.copy_boxes.Given as goal

-- the copies so far
abbrev pub invariant-loop-mailbox : goal.invariant-loop-mailbox
invariant-loop-mailbox l = map message_view l.own ≡ all_of (take l.mailbox (boxes_view l.mailboxes.mailboxes))
