use Rattle.std.proofs.Common.{arith}
use Rattle.pat_inclusion_spec.specs.bounds.Numbers.{table_of}
use Rattle.pat_grid.specs.tables.Views.{setting_of}
use Rattle.pat_grid.proofs.Closing.{some_points, step_one}
use Rattle.pat_grid.proofs.Turns.{one_moved}
use Rattle.pat_grid.proofs.Waiting.{on_ok}
use Rattle.pat_grid.proofs.tables.symbols.relax_one.Goals as goal

pub lower-requires-clause-place : goal.lower-requires-clause-place
lower-requires-clause-place c =
    let b = c.args.board.now in
    let p = c.requires.board.points in
    let l = some_points b.k b.tags in
    (c.requires.there, omega arith)

pub lower-requires-clause-step : goal.lower-requires-clause-step
lower-requires-clause-step c =
    let g = setting_of c.args.board.now in step_one g c.args.s (table_of g c.args.sizes.now.entries) c.requires.symbol

pub returns : goal.returns
returns c =
    on_ok _ _ _ (λ m. one_moved c.args.board.now c.requires.board c.args.s c.args.sizes.now c.args.changed.now c.lower.new.sizes c.lower.new.changed c.requires.symbol m) c.lower.ensures
