use Rattle.pat_replay.proofs.Walks.{changes_as, thread_names}
use Rattle.pat_replay.proofs.names.change_thread.Goals as goal

pub returns : goal.returns
returns c = λ yes.
    changes_as c.args.change _ _ _ _
    (thread_names c.join_laws.ensures.frames c.args.state.now _ c.as_slice.ensures)
    (c.change_parts.ensures yes)
