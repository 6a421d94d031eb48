use Rattle.std.proofs.Common.{◌≡◌, ◌+◌, ◌-◌, ◌%◌, ◌<◌, sym, ◌∙◌, arith}
use Rattle.pat_grid_points.proofs.Digits.{summed_zero_left}
use Rattle.pat_grid_sums.proofs.Units.{some_tags, part_below, last_unit, next_unit}
use Rattle.pat_grid_sums.proofs.moving.+unit_of.Goals as goal

pub returns-then-place-eq0-clause-sum : goal.returns-then-place-eq0-clause-sum
returns-then-place-eq0-clause-sum t c =
    let p = c.args.place in
    let few = c.requires in
    let e : p - 0 ≡ p = omega arith in
    sym (summed_zero_left c.args.k c.args.tags (p - 0) (omega arith)) ∙ e

pub returns-then-place-base-ne0-clause-sum : goal.returns-then-place-base-ne0-clause-sum
returns-then-place-base-ne0-clause-sum t c =
    last_unit c.args.k c.args.tags c.args.place c.requires c.if-place-base-ne0.true

pub unit_of-requires : goal.unit_of-requires
unit_of-requires t c =
    let d = c.decreases in
    let some : 0 < c.args.tags = some_tags c.args.k c.args.tags c.args.place c.requires c.if-place-eq0.false in
    (omega arith, part_below c.args.k c.args.tags c.args.place some c.requires)

pub returns-clause-sum : goal.returns-clause-sum
returns-clause-sum t c =
    let some : 0 < c.args.tags = some_tags c.args.k c.args.tags c.args.place c.requires c.if-place-eq0.false in
    let none : c.args.place % (c.args.k + 1) ≡ 0 = omega (arith, c.if-place-base-ne0.false) in
    next_unit c.args.k c.args.tags c.unit_of.result c.args.place some none c.unit_of.ensures.within c.unit_of.ensures.sum
