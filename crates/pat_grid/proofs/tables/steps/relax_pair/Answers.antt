use Rattle.std.proofs.Common.{◌<◌, subst, arith}
use Rattle.pat_inclusion_spec.specs.bounds.Numbers.{point_of, table_of}
use Rattle.pat_grid_points.proofs.Digits.{summed_below}
use Rattle.pat_grid.specs.tables.Views.{setting_of}
use Rattle.pat_grid.proofs.Relaxing.{pair_step, pair_at}
use Rattle.pat_grid.proofs.Waiting.{on_ok}
use Rattle.pat_grid.proofs.tables.steps.relax_pair.Goals as goal

pub lower-requires-clause-place : goal.lower-requires-clause-place
lower-requires-clause-place c =
    let b = c.args.board.now in
    let l = summed_below b.k b.tags c.args.first c.args.second in
    let e = c.sum_of_points-number.ensures in
    let p = c.requires.board.points in
    (c.requires.place.0, omega arith)

pub lower-requires-clause-step : goal.lower-requires-clause-step
lower-requires-clause-step c =
    let b = c.args.board.now in
    let g = setting_of b in
    c.requires.takes (table_of g c.args.sizes.now.entries) (point_of b.k b.tags c.args.second) (point_of b.k b.tags c.sum_of_points-number.result) c.one_more-size.result
    (pair_step g c.args.sizes.now.entries c.args.parts.0 c.args.parts.1 c.args.first c.args.second c.entry-one.result c.entry-other.result c.sum_of_points-number.result c.one_more-size.result
    (subst (λ x. c.args.first < x) c.requires.board.points c.requires.place.1)
    (subst (λ x. c.args.second < x) c.requires.board.points c.requires.second)
    c.entry-one.ensures
    c.entry-other.ensures
    c.if-one-board.false c.if-other-board.false c.sum_of_points-number.ensures c.one_more-size.ensures)

pub returns : goal.returns
returns c =
    let b = c.args.board.now in
    let g = setting_of b in
    on_ok _ _ _
    (λ m. pair_at g c.args.s c.args.parts.0 c.args.parts.1 c.args.first c.args.second c.entry-one.result c.entry-other.result c.sum_of_points-number.result c.one_more-size.result c.args.sizes.now c.lower.new.sizes c.args.changed.now c.lower.new.changed
    (subst (λ x. c.args.first < x) c.requires.board.points c.requires.place.1)
    (subst (λ x. c.args.second < x) c.requires.board.points c.requires.second)
    c.entry-one.ensures
    c.entry-other.ensures
    c.sum_of_points-number.ensures c.one_more-size.ensures m)
    c.lower.ensures
