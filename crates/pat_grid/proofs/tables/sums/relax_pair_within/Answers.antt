use Rattle.std.proofs.Common.{arith}
use Rattle.pat_grid.specs.tables.Views.{setting_of}
use Rattle.pat_grid.proofs.Summing.{pair_past, pair_walked}
use Rattle.pat_grid.proofs.Waiting.{on_ok}
use Rattle.pat_grid.proofs.tables.sums.relax_pair_within.Goals as goal

pub returns-then-one-other : goal.returns-then-one-other
returns-then-one-other c =
    let a = c.args in
    let l = c.if-one-other.true in
    pair_past (setting_of a.board.now) a.s a.parts.0 a.parts.1 a.first a.second c.entry-one.result c.entry-other.result a.sizes.now a.changed.now c.entry-one.ensures c.entry-other.ensures (omega arith)

pub returns : goal.returns
returns c =
    let a = c.args in
    on_ok _ _ _
    (λ m. pair_walked (setting_of a.board.now) a.s a.parts.0 a.parts.1 a.first a.second a.sizes.now c.relax_pair.new.sizes a.changed.now c.relax_pair.new.changed m)
    c.relax_pair.ensures
