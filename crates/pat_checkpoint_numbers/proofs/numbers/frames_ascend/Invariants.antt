use Rattle.std.proofs.Common.{◌≡◌, drop, map}
use Rattle.std.specs.List.{list_all}
use Rattle.std.specs.Map.{keys_of}
use Rattle.pat_reduce.specs.threads.ThreadViews.{frame_view}
use Rattle.pat_checkpoint_spec.specs.Numbers.{ascends}
use Rattle.pat_checkpoint_numbers.proofs.numbers.frames_ascend.Given as goal

-- what is left decides it
abbrev pub invariant-loop-frame : goal.invariant-loop-frame
invariant-loop-frame l = list_all (λ f. ascends 0 (keys_of f.env)) (map frame_view (drop l.frame-index l.frames)) ≡ list_all (λ f. ascends 0 (keys_of f.env)) (map frame_view l.frames)
