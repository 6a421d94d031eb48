use Rattle.std.proofs.Common.{◌<◌, subst}
use Rattle.pat_inclusion_spec.specs.bounds.Numbers.{point_of, table_of}
use Rattle.pat_grid.specs.tables.Views.{setting_of}
use Rattle.pat_grid.proofs.Relaxing.{part_step}
use Rattle.pat_grid.proofs.tables.steps.relax_part_at.Goals as goal

pub lower-requires-clause-step : goal.lower-requires-clause-step
lower-requires-clause-step c =
    let b = c.args.board.now in
    let g = setting_of b in
    c.requires.takes (table_of g c.args.sizes.now.entries) (point_of b.k b.tags c.args.number) c.one_more-own.result
    (part_step g c.args.sizes.now.entries c.args.part c.args.number c.entry-size.result c.one_more-own.result
    (subst (λ x. c.args.number < x) c.requires.board.points c.requires.place.1)
    c.entry-size.ensures c.if-size-board.false c.one_more-own.ensures)
