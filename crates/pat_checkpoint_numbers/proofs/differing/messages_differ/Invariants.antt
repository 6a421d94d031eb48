use Rattle.std.proofs.Common.{◌≡◌, true, drop, map}
use Rattle.std.specs.List.{list_all}
use Rattle.pat_reduce.specs.threads.ThreadViews.{message_view}
use Rattle.pat_checkpoint_spec.specs.Numbers.{message_lives}
use Rattle.pat_checkpoint_spec.specs.Mailboxes.{message_differs}
use Rattle.pat_checkpoint_numbers.proofs.differing.messages_differ.Given as goal

-- what is left decides it
abbrev pub invariant-loop-message : goal.invariant-loop-message
invariant-loop-message l = record {
  live : l.marks.live.now ≡ l.fn.marks.live.now;
  lives : list_all (message_lives l.fn.marks.live.now) (map message_view (drop l.message-index l.messages)) ≡ true;
  same : list_all message_differs (map message_view (drop l.message-index l.messages)) ≡ list_all message_differs (map message_view l.messages);
}
