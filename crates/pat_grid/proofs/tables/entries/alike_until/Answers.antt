use Rattle.std.proofs.Common.{arith}
use Rattle.pat_grid.proofs.Walking.{same_entries}
use Rattle.pat_grid.proofs.tables.entries.alike_until.Goals as goal

pub returns-clause-same : goal.returns-clause-same
returns-clause-same c =
    let until = c.same_until.result in
    let least = c.min.ensures in
    same_entries c.args.board.now c.args.entries.now c.args.s c.args.number c.place_of-place.result until c.min.result c.requires.board c.place_of-place.ensures.value c.same_until.ensures.same (omega arith)
