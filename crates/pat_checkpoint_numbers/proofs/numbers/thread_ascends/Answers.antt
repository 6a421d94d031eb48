use Rattle.std.proofs.Common.{sym, ◌∙◌}
use Rattle.std.specs.Map.{keys_of}
use Rattle.pat_reduce.specs.threads.ThreadViews.{control_view, frame_view}
use Rattle.pat_checkpoint_spec.specs.Numbers.{ascends, control_ascends}
use Rattle.pat_checkpoint_numbers.proofs.Reversed.{frames_too}
use Rattle.pat_checkpoint_numbers.proofs.numbers.thread_ascends.Goals as goal

pub returns-then-control_ascends : goal.returns-then-control_ascends
returns-then-control_ascends c =
    let state = c.args.state.now in
    frames_too (λ f. ascends 0 (keys_of f.env)) frame_view c.as_slice.result.now state.frames (control_ascends (control_view state.control)) c.frames_ascend.result c.frames_ascend.ensures c.as_slice.ensures (sym c.control_ascends.ensures ∙ c.if-control_ascends.true)
