use Rattle.pat_grid.specs.tables.Views.{setting_of}
use Rattle.pat_grid.proofs.Waiting.{users_more}
use Rattle.pat_grid.proofs.tables.users.users_of.Goals as goal

pub loop-s-preserved : goal.loop-s-preserved
loop-s-preserved c =
    users_more (setting_of c.args.board.now) c.loop-s.s c.loop-s.users c.note_parts.new.users c.loop-s.invariant c.in_ok-note_parts.ensures
