use Rattle.std.proofs.Common.{◌≡◌}
use Rattle.pat_grid.specs.tables.Views.{setting_of}
use Rattle.pat_grid_points.specs.Chains.{noted}
use Rattle.pat_grid.specs.tables.Waiting.{Notes}
use Rattle.pat_grid.proofs.Waiting.{on_ok, notes_two}
use Rattle.pat_grid.proofs.tables.users.note_parts.Goals as goal

pub returns : goal.returns
returns c =
    let g = setting_of c.args.board.now in
    let parts = c.parts_of-parts.result in
    on_ok c.note-2.result (c.note-2.new.self ≡ noted c.note.new.self parts.1 c.args.s) (Notes g c.args.s c.args.users.now c.note-2.new.self)
    (λ e. notes_two g c.args.s c.args.users.now parts.0 parts.1 c.note.new.self c.note-2.new.self c.parts_of-parts.ensures c.in_ok-note.ensures e)
    c.note-2.ensures
