use Rattle.std.proofs.Common.{◌≡◌, take, length, map}
use Rattle.pat_reduce.specs.threads.ThreadViews.{frame_view}
use Rattle.pat_machine_threads.proofs.same.are_same_frames.Given as goal

-- so far they are the same
abbrev pub invariant-loop-i : goal.invariant-loop-i
invariant-loop-i l = (length l.first ≡ length l.second) × (map frame_view (take l.i l.first) ≡ map frame_view (take l.i l.second))
