use Rattle.std.proofs.Common.{◌≡◌, true, drop, map}
use Rattle.std.specs.List.{list_all}
use Rattle.pat_type_system_spec.specs.Typed.{mailboxes_of}
use Rattle.pat_reduce_values.specs.ValueViews.{value_view}
use Rattle.pat_reduce.specs.threads.ThreadViews.{message_view}
use Rattle.pat_checkpoint_spec.specs.Numbers.{value_lives}
use Rattle.pat_checkpoint_spec.specs.Mailboxes.{message_differs}
use Rattle.pat_checkpoint_numbers.specs.Marked.{is_marked, are_new}
use Rattle.pat_checkpoint_numbers.proofs.differing.message_differs.Given as goal

-- what is left decides it, with the marks
abbrev pub invariant-loop-value : goal.invariant-loop-value
invariant-loop-value l = record {
  live : l.marks.live.now ≡ l.fn.marks.live.now;
  lives : list_all (value_lives l.fn.marks.live.now) (map value_view (drop l.value-index l.value-items)) ≡ true;
  same : are_new (is_marked l.marks) (mailboxes_of (map value_view (drop l.value-index l.value-items))) ≡ message_differs (message_view l.message);
}
