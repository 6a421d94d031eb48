use Rattle.std.proofs.Common.{drop, map}
use Rattle.pat_reduce.specs.threads.ThreadViews.{frame_view}
use Rattle.pat_machine_laws.specs.refcounts.Naming.{times_in_frames}
use Rattle.pat_replay.proofs.Walks.{IsUnderWay}
use Rattle.pat_replay.proofs.names.change_frames.Given as goal

abbrev pub invariant-loop-frame : goal.invariant-loop-frame
invariant-loop-frame l = IsUnderWay l.change l.fn.times.items (λ a. times_in_frames a (map frame_view l.frames)) l.times.items (λ a. times_in_frames a (map frame_view (drop l.frame-index l.frames)))
