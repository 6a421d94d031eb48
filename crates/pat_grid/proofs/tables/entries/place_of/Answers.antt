use Rattle.std.proofs.Common.{arith}
use Rattle.pat_grid.proofs.Walking.{place_within}
use Rattle.pat_grid.proofs.tables.entries.place_of.Goals as goal

pub overflow_mul-result : goal.overflow_mul-result
overflow_mul-result c =
    let room = place_within c.args.board.now c.args.entries.now c.args.s c.args.number c.requires.board c.requires.all c.requires.place in
    let count = c.len-count.ensures in
    omega arith

pub overflow_add-result : goal.overflow_add-result
overflow_add-result c =
    let room = place_within c.args.board.now c.args.entries.now c.args.s c.args.number c.requires.board c.requires.all c.requires.place in
    let count = c.len-count.ensures in
    omega arith

pub returns-clause-within : goal.returns-clause-within
returns-clause-within c =
    place_within c.args.board.now c.args.entries.now c.args.s c.args.number c.requires.board c.requires.all c.requires.place
