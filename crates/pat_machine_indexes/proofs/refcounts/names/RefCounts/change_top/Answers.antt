use Rattle.pat_machine_indexes.proofs.Turns.{fits_other, changes_both}
use Rattle.pat_machine_indexes.proofs.Sums.{top_names}
use Rattle.pat_machine_indexes.proofs.refcounts.names.RefCounts.change_top.Goals as goal

pub change_frames-requires : goal.change_frames-requires
change_frames-requires c =
    fits_other c.args.change c.args.self.now _ _ _ _
    (top_names c.join_laws.ensures.frames c.args.state.now c.args.frames _ c.top_frames.ensures)
    c.requires c.change_control.ensures

pub returns : goal.returns
returns c =
    changes_both c.args.change c.args.self.now _ _ _ _ _
    (top_names c.join_laws.ensures.frames c.args.state.now c.args.frames _ c.top_frames.ensures)
    c.change_control.ensures c.change_frames.ensures
