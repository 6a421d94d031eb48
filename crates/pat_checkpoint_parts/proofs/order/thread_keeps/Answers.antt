use Rattle.std.proofs.Common.{◌≡◌, true, sym, map, subst}
use Rattle.std.specs.List.{list_all}
use Rattle.pat_reduce.specs.threads.ThreadViews.{control_view, frame_view}
use Rattle.pat_checkpoint_spec.specs.Numbers.{env_lives, control_lives}
use Rattle.pat_checkpoint_spec.specs.Mailboxes.{env_differs, control_differs}
use Rattle.pat_checkpoint_numbers.proofs.Reversed.{frames_pass}
use Rattle.pat_checkpoint_parts.proofs.order.thread_keeps.Goals as goal

pub frames_keep-keep-requires-clause-live : goal.frames_keep-keep-requires-clause-live
frames_keep-keep-requires-clause-live c =
    let live = c.args.marks.now.live.now in
    let state = c.args.state.now in
    subst (λ l. list_all (λ f. env_lives l f.env) (map frame_view c.as_slice-frames.result.now) ≡ true) (sym c.in_ok-clear.ensures.live)
    (frames_pass (λ f. env_lives live f.env) frame_view c.as_slice-frames.result.now state.frames (control_lives live (control_view state.control)) c.as_slice-frames.ensures c.requires.live)

pub frames_keep-keep-requires-clause-differ : goal.frames_keep-keep-requires-clause-differ
frames_keep-keep-requires-clause-differ c =
    let state = c.args.state.now in
    frames_pass (λ f. env_differs f.env) frame_view c.as_slice-frames.result.now state.frames (control_differs (control_view state.control)) c.as_slice-frames.ensures c.requires.differ
