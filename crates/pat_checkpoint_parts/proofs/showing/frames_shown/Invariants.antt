use Rattle.std.proofs.Common.{◌≡◌, take, map, reverse}
use Rattle.pat_reduce.specs.threads.ThreadViews.{frame_view}
use Rattle.pat_checkpoint_spec.specs.Kinds.{frames_shown}
use Rattle.pat_checkpoint_data.specs.Views.{end_view}
use Rattle.pat_checkpoint_parts.specs.Typed.{program_in, typing_in, scope_in}
use Rattle.pat_checkpoint_parts.proofs.showing.frames_shown.Given as goal

-- it is so of the frames so far
abbrev pub invariant-loop-place : goal.invariant-loop-place
invariant-loop-place l = l.shown ≡ frames_shown (program_in l.typing) (typing_in l.typing) (scope_in l.typing) (map frame_view (reverse (take l.place l.frames))) (map end_view (reverse (take l.place (reverse l.certs.frames))))
