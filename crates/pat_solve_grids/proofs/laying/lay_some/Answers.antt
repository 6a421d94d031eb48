use Rattle.std.proofs.Common.{length, ap, arith}
use Rattle.pat_grid_points.specs.symbols.Views.{symbols_view}
use Rattle.pat_solve_bounds.specs.lower_bounds.Sides.{sides_list}
use Rattle.pat_solve_bounds.specs.renumbered.Renaming.{place_in}
use Rattle.pat_solve_grids.proofs.Laid.{sides_begin, sides_turn, one_longer}
use Rattle.pat_solve_grids.proofs.laying.lay_some.Goals as goal

pub loop-place-init : goal.loop-place-init
loop-place-init c = (
  let none = ap length c.new-sides.ensures in omega (arith, none),
  c.requires.from,
  sides_begin (place_in c.args.variables.now) (sides_list c.args.constraints.now) c.args.numbers.now c.args.from (symbols_view c.args.shared.now.symbols) c.new-sides.result c.new-sides.ensures,
)

pub loop-place-preserved : goal.loop-place-preserved
loop-place-preserved c =
    let at = c.loop-place.invariant.0 in
    let less = c.loop-place-test.true in
    let longer = one_longer c.loop-place.sides c.push.new.self c.in_ok-side.side c.in_ok-push.ensures.ok in (
      omega (arith, at, longer),
      omega (arith, less),
      sides_turn (place_in c.args.variables.now) (sides_list c.args.constraints.now) c.args.numbers.now c.args.from c.loop-place.place (symbols_view c.args.shared.now.symbols) (symbols_view c.loop-place.shared.symbols) (symbols_view c.lay_at.new.shared.symbols) c.loop-place.sides c.push.new.self c.in_ok-side.side c.loop-place.invariant.0 c.loop-place-test.true c.loop-place.invariant.2 c.in_ok-side.ensures c.in_ok-push.ensures.ok,
    )

pub returns-then-len-most-clause-laid : goal.returns-then-len-most-clause-laid
returns-then-len-most-clause-laid c =
    sides_turn (place_in c.args.variables.now) (sides_list c.args.constraints.now) c.args.numbers.now c.args.from c.loop-place.place (symbols_view c.args.shared.now.symbols) (symbols_view c.loop-place.shared.symbols) (symbols_view c.lay_at.new.shared.symbols) c.loop-place.sides c.push.new.self c.in_ok-side.side c.loop-place.invariant.0 c.loop-place-test.true c.loop-place.invariant.2 c.in_ok-side.ensures c.in_ok-push.ensures.ok

pub returns-then-len-most-clause-within : goal.returns-then-len-most-clause-within
returns-then-len-most-clause-within c =
    let at = c.loop-place.invariant.0 in
    let less = c.loop-place-test.true in
    let longer = one_longer c.loop-place.sides c.push.new.self c.in_ok-side.side c.in_ok-push.ensures.ok in
    omega (arith, at, less, longer)

pub returns-then-len-most-clause-more : goal.returns-then-len-most-clause-more
returns-then-len-most-clause-more c = λ any.
    let longer = one_longer c.loop-place.sides c.push.new.self c.in_ok-side.side c.in_ok-push.ensures.ok in
    omega (arith, longer)
