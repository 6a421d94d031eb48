use Rattle.std.proofs.Common.{◌≡◌, ◌≤◌, length, take}
use Rattle.pat_machine_laws.specs.mailbox_index.Pending.{live_of}
use Rattle.pat_machine_indexes.specs.messages.Boxes.{boxes_view}
use Rattle.pat_machine_indexes.proofs.messages.copies.count_live.Given as goal

-- those so far
abbrev pub invariant-loop-mailbox : goal.invariant-loop-mailbox
invariant-loop-mailbox l = record {
  count : l.live ≡ length (live_of (take l.mailbox (boxes_view l.mailboxes.mailboxes)));
  few : l.live ≤ l.mailbox;
}
