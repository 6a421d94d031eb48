use Rattle.std.proofs.Common.{◌≡◌, take, map, reverse}
use Rattle.pat_reduce.specs.threads.ThreadViews.{frame_view}
use Rattle.pat_checkpoint_spec.specs.Kinds.{frames_fit}
use Rattle.pat_checkpoint_parts.specs.Typed.{program_in, typing_in}
use Rattle.pat_checkpoint_parts.specs.Shown.{interfaces_in}
use Rattle.pat_checkpoint_parts.proofs.parts.Parts.frames_fit.Given as goal

-- it is so of the frames so far
abbrev pub invariant-loop-place : goal.invariant-loop-place
invariant-loop-place l = l.fit ≡ frames_fit (program_in l.self.typing) (typing_in l.self.typing) (interfaces_in l.self) (map frame_view (reverse (take l.place l.frames)))
