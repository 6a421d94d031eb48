use Rattle.std.proofs.Common.{sym, ◌∙◌}
use Rattle.pat_reduce.specs.threads.ThreadViews.{control_view, frame_view}
use Rattle.pat_checkpoint_spec.specs.Numbers.{env_lives, control_lives}
use Rattle.pat_checkpoint_numbers.proofs.Reversed.{frames_too}
use Rattle.pat_checkpoint_numbers.proofs.numbers.thread_lives.Goals as goal

pub returns-then-control_lives : goal.returns-then-control_lives
returns-then-control_lives c =
    let state = c.args.state.now in
    let live = c.args.live.now in
    frames_too (λ f. env_lives live f.env) frame_view c.as_slice.result.now state.frames (control_lives live (control_view state.control)) c.frames_live.result c.frames_live.ensures c.as_slice.ensures (sym c.control_lives.ensures ∙ c.if-control_lives.true)
