use Rattle.std.proofs.Common.{◌+◌, sym, subst, arith}
use Rattle.std.proofs.lemmas.Bool.{ltb-false, ltb-true}
use Rattle.pat_grid.specs.tables.Views.{setting_of}
use Rattle.pat_grid.specs.tables.Moves.{KeptBefore}
use Rattle.pat_grid.proofs.Summing.{kept_more}
use Rattle.pat_grid.proofs.tables.sums.kept_below.Goals as goal

pub loop-number-preserved : goal.loop-number-preserved
loop-number-preserved c =
    let a = c.args in
    let g = setting_of a.board.now in
    let is = c.entry.ensures in
    subst (KeptBefore g a.s a.most a.entries.now a.numbers.now (c.loop-number.number-index + 1)) (sym c.in_ok-keep_if.ensures)
    (kept_more g a.s a.most c.loop-number.number-index a.entries.now a.numbers.now c.loop-number.kept _ c.loop-number-test.true
    (λ yes. let l = ltb-true _ _ yes in omega arith)
    (λ no. let l = ltb-false _ _ no in omega arith)
    c.loop-number.invariant)
