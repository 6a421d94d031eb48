use Rattle.pat_replay.proofs.Walks.{changes_as, top_names}
use Rattle.pat_replay.proofs.names.change_top.Goals as goal

pub returns : goal.returns
returns c = λ yes.
    changes_as c.args.change _ _ _ _
    (top_names c.join_laws.ensures.frames c.args.state.now c.args.frames _ c.top_frames.ensures)
    (c.change_parts.ensures yes)
