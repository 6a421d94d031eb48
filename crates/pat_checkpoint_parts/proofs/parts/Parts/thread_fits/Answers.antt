use Rattle.std.specs.Map.{keys_of}
use Rattle.pat_semantics_spec.specs.Configs.{Frame}
use Rattle.pat_reduce.specs.threads.ThreadViews.{control_view, frame_view}
use Rattle.pat_checkpoint_spec.specs.Numbers.{ascends, control_ascends}
use Rattle.pat_checkpoint_numbers.proofs.Reversed.{frames_pass}
use Rattle.pat_checkpoint_parts.proofs.parts.Parts.thread_fits.Goals as goal

pub frames_fit-requires : goal.frames_fit-requires
frames_fit-requires c =
    let state = c.args.state.now in
    frames_pass (λ (f : Frame). ascends 0 (keys_of f.env)) frame_view c.as_slice-frames.result.now state.frames (control_ascends (control_view state.control)) c.as_slice-frames.ensures c.requires
