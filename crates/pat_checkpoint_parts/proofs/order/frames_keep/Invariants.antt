use Rattle.std.proofs.Common.{◌≡◌, ℕ, take, map, reverse}
use Rattle.pat_type_system_spec.specs.Typed.{frames_refer}
use Rattle.pat_reduce.specs.threads.ThreadViews.{frame_view}
use Rattle.pat_checkpoint_spec.specs.Mailboxes.{frames_keep}
use Rattle.pat_checkpoint_numbers.specs.Marked.{is_marked}
use Rattle.pat_checkpoint_parts.specs.Typed.{typing_in}
use Rattle.pat_checkpoint_parts.proofs.order.frames_keep.Given as goal

-- it is so of the frames so far, and what they refer to is marked
abbrev pub invariant-loop-frame : goal.invariant-loop-frame
invariant-loop-frame l = record {
  live : l.marks.live.now ≡ l.fn.marks.live.now;
  marked : (b : ℕ) → is_marked l.marks b ≡ frames_refer b (map frame_view (reverse (take l.frame-index l.frames)));
  keep : l.keep ≡ frames_keep (typing_in l.typing) (map frame_view (reverse (take l.frame-index l.frames)));
}
