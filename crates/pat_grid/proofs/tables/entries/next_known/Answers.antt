use Rattle.std.proofs.Common.{arith}
use Rattle.pat_grid.specs.tables.Views.{setting_of}
use Rattle.pat_grid.proofs.Walking.{none_known}
use Rattle.pat_grid.proofs.tables.entries.next_known.Goals as goal

pub loop-number-preserved : goal.loop-number-preserved
loop-number-preserved c =
    let g = setting_of c.args.board.now in
    let number = c.loop-number.number in
    let to = c.alike_until-number.ensures in
    let past = to.past in
    let from = c.loop-number.invariant.0 in (
      omega arith,
      to.within,
      none_known g c.args.entries.now c.args.s c.args.from number c.alike_until-number.result c.entry.result c.entry.ensures c.if-entry-board.false c.loop-number.invariant.2 to.same,
    )
