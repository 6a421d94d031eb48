use Rattle.std.proofs.Common.{◌≡◌, true, drop}
use Rattle.std.specs.List.{list_all}
use Rattle.pat_reduce.specs.Views.{threads_view}
use Rattle.pat_checkpoint_spec.specs.Numbers.{thread_lives}
use Rattle.pat_checkpoint_spec.specs.Mailboxes.{thread_differs, thread_keeps}
use Rattle.pat_checkpoint_parts.specs.Typed.{program_in, typing_in}
use Rattle.pat_checkpoint_parts.proofs.order.threads_keep.Given as goal

-- what is left decides it
abbrev pub invariant-loop-state : goal.invariant-loop-state
invariant-loop-state l = record {
  live : l.marks.live.now ≡ l.fn.marks.live.now;
  lives : list_all (λ e. thread_lives l.fn.marks.live.now e.1) (threads_view (drop l.state-index l.threads)) ≡ true;
  differ : list_all (λ e. thread_differs e.1) (threads_view (drop l.state-index l.threads)) ≡ true;
  same : list_all (λ e. thread_keeps (program_in l.typing) (typing_in l.typing) e.1) (threads_view (drop l.state-index l.threads)) ≡ list_all (λ e. thread_keeps (program_in l.typing) (typing_in l.typing) e.1) (threads_view l.threads);
}
