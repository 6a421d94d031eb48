use Rattle.pat_machine_indexes.proofs.Lists.{lists_both}
use Rattle.pat_machine_indexes.proofs.Sums.{top_names}
use Rattle.pat_machine_indexes.proofs.refcounts.listing.list_top.Goals as goal

pub returns : goal.returns
returns c =
    lists_both _ _ _
    (top_names c.join_laws.ensures.frames c.args.state.now c.args.frames _ c.top_frames.ensures)
    c.in_ok-list_control.ensures c.in_ok-list_frames.ensures
