use Rattle.std.proofs.Common.{◌+◌, None, arith}
use Rattle.pat_grid.specs.tables.Views.{setting_of}
use Rattle.pat_counterexample_search.proofs.Best.{begins, goes_on, some_end, none_end}
use Rattle.pat_counterexample_search.proofs.reading.find_missing.Goals as goal

pub loop-number-init : goal.loop-number-init
loop-number-init c =
    let g = setting_of c.args.board.now in
    let first = c.next_known-number.ensures in (
      first.within,
      goes_on g c.args.entries.now c.args.left c.args.right (c.args.board.now.limit + 1) 0 c.next_known-number.result None (c.args.board.now.limit + 1 + 1) (omega arith) first.before
          (begins g c.args.entries.now c.args.left c.args.right (c.args.board.now.limit + 1)),
    )

pub loop-number-preserved : goal.loop-number-preserved
loop-number-preserved c =
    let g = setting_of c.args.board.now in
    let next = c.next_known-number-in-loop-number.ensures in (
      next.within,
      goes_on g c.args.entries.now c.args.left c.args.right (c.args.board.now.limit + 1) (c.loop-number.number + 1) c.next_known-number-in-loop-number.result c.better-best.result.found c.better-best.result.above (omega arith) next.before
          (c.better-best.ensures (c.args.board.now.limit + 1) c.loop-number.invariant.1),
    )

pub returns-clause-some : goal.returns-clause-some
returns-clause-some c =
    let past = c.loop-number-test.false in
    let points = c.requires.board.points in
    some_end (setting_of c.args.board.now) c.args.entries.now c.args.left c.args.right (c.args.board.now.limit + 1) c.loop-number.number c.loop-number.best.above c.loop-number.best.found (omega (arith, past, points)) c.loop-number.invariant.1

pub returns-clause-none : goal.returns-clause-none
returns-clause-none c =
    let past = c.loop-number-test.false in
    let points = c.requires.board.points in
    none_end (setting_of c.args.board.now) c.args.entries.now c.args.left c.args.right (c.args.board.now.limit + 1) c.loop-number.number c.loop-number.best.above c.loop-number.best.found (omega (arith, past, points)) c.loop-number.invariant.1
