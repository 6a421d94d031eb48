use Rattle.std.proofs.Common.{map, ap, ◌∙◌}
use Rattle.pat_reduce.specs.threads.ThreadViews.{frame_view}
use Rattle.pat_machine_threads.proofs.Sames.{same_top}
use Rattle.pat_machine_threads.proofs.copies.copy_top.Goals as goal

pub returns : goal.returns
returns c =
    same_top (record { control = c.in_ok-control.control; frames = c.in_ok-frames.frames }) c.args.state.now c.args.most
    c.in_ok-control.ensures
    (c.in_ok-frames.ensures ∙ ap (map frame_view) c.top_frames.ensures)
