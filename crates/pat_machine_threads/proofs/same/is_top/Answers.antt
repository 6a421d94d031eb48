use Rattle.std.proofs.Common.{take, ap, ◌∙◌}
use Rattle.std.proofs.lemmas.List.{take-map}
use Rattle.pat_semantics_spec.specs.Configs.{Thread}
use Rattle.pat_reduce.specs.threads.ThreadViews.{frame_view}
use Rattle.pat_machine_threads.proofs.Sames.{same_reversed, same_upright, same_top}
use Rattle.pat_machine_threads.proofs.same.is_top.Goals as goal

pub returns-then-is_same_control-clause-same : goal.returns-then-is_same_control-clause-same
returns-then-is_same_control-clause-same c = λ yes.
    same_top c.args.start.now c.args.kept.now c.args.most (c.is_same_control.ensures.same c.if-is_same_control.true)
    (same_reversed frame_view c.as_slice.result.now c.top_frames.result.now c.args.start.now.frames (take c.args.most c.args.kept.now.frames) c.as_slice.ensures c.top_frames.ensures (c.are_same_frames.ensures.same yes))

pub returns-then-is_same_control-clause-other : goal.returns-then-is_same_control-clause-other
returns-then-is_same_control-clause-other c = λ no same.
    c.are_same_frames.ensures.other no
    (same_upright frame_view c.as_slice.result.now c.top_frames.result.now c.args.start.now.frames (take c.args.most c.args.kept.now.frames) c.as_slice.ensures c.top_frames.ensures
    (ap (λ (t : Thread). t.frames) same ∙ take-map frame_view c.args.most c.args.kept.now.frames))
