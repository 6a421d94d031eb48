use Rattle.std.proofs.Common.{◌≡◌, drop, map}
use Rattle.std.specs.List.{list_all}
use Rattle.pat_reduce.specs.threads.ThreadViews.{frame_view}
use Rattle.pat_checkpoint_spec.specs.Numbers.{env_lives}
use Rattle.pat_checkpoint_numbers.proofs.numbers.frames_live.Given as goal

-- what is left decides it
abbrev pub invariant-loop-frame : goal.invariant-loop-frame
invariant-loop-frame l = list_all (λ f. env_lives l.live f.env) (map frame_view (drop l.frame-index l.frames)) ≡ list_all (λ f. env_lives l.live f.env) (map frame_view l.frames)
