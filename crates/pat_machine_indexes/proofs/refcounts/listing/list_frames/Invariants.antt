use Rattle.std.proofs.Common.{drop, map}
use Rattle.pat_reduce.specs.threads.ThreadViews.{frame_view}
use Rattle.pat_machine_laws.specs.refcounts.Naming.{times_in_frames}
use Rattle.pat_machine_indexes.proofs.Lists.{IsListed}
use Rattle.pat_machine_indexes.proofs.refcounts.listing.list_frames.Given as goal

abbrev pub invariant-loop-frame : goal.invariant-loop-frame
invariant-loop-frame l = IsListed l.fn.named.items (λ a. times_in_frames a (map frame_view l.frames)) l.named.items (λ a. times_in_frames a (map frame_view (drop l.frame-index l.frames)))
