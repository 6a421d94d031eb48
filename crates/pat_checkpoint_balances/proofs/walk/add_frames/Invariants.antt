use Rattle.std.proofs.Common.{◌≡◌, ◌++◌, map, drop}
use Rattle.pat_types.specs.Views.{needs_view}
use Rattle.pat_reduce.specs.threads.ThreadViews.{frame_view}
use Rattle.pat_checkpoint_balances.specs.Tables.{needs_of, frames_hold_in_turn}
use Rattle.pat_checkpoint_balances.proofs.walk.add_frames.Given as goal

abbrev pub invariant-loop-frame : goal.invariant-loop-frame
invariant-loop-frame l = needs_view l.held ++ frames_hold_in_turn (needs_of l.envs) (map frame_view (drop l.frame-index l.frames)) ≡ needs_view l.initial.held ++ frames_hold_in_turn (needs_of l.envs) (map frame_view l.frames)
