use Rattle.pat_replay.proofs.Walks.{changes_both}
use Rattle.pat_replay.proofs.names.change_parts.Goals as goal

pub returns : goal.returns
returns c = λ yes. changes_both c.args.change _ _ _ _ _ (c.change_control.ensures c.if-not-change_control.false) (c.change_frames.ensures yes)
