use Rattle.std.proofs.Common.{◌≡◌, ◌++◌, drop, map, reverse}
use Rattle.pat_reduce.specs.threads.ThreadViews.{frame_view}
use Rattle.pat_machine_threads.proofs.copies.copy_frames.Given as goal

-- what is left, the other way round, on top of the copies so far
abbrev pub invariant-loop-frame : goal.invariant-loop-frame
invariant-loop-frame l = map frame_view (reverse (drop l.frame-index l.frames)) ++ map frame_view l.own ≡ map frame_view (reverse l.frames)
