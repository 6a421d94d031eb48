use Rattle.std.proofs.Common.{◌-◌, sym, subst, arith}
use Rattle.pat_grid_points.proofs.Digits.{points_fit}
use Rattle.pat_grid_points.proofs.Ascending.{Holding, number_at, number_small_at, holding_turn, holding_all, all_behind, parts_fit}
use Rattle.pat_grid_points.proofs.grid.Grid.from_points.Goals as goal

pub fill-requires : goal.fill-requires
fill-requires c =
    let a = c.args in
    let rest = c.loop-rest.rest.now in
    let run = c.run_at-run.ensures in
    let some = run.some in
    let within = run.within in
    let last = run.last in
    let small = number_small_at a.k a.tags rest (c.run_at-run.result - 1) (omega arith) in
    let all = c.loop-rest.invariant.all in
    omega arith

pub offset_bounds-rest-run : goal.offset_bounds-rest-run
offset_bounds-rest-run c =
    let a = c.args in
    let rest = c.loop-rest.rest.now in
    let run = c.run_at-run.ensures in
    let some = run.some in
    let within = run.within in
    let last = run.last in
    let small = number_small_at a.k a.tags rest (c.run_at-run.result - 1) (omega arith) in
    let few = points_fit a.k a.tags (parts_fit a.k a.tags a.points.now c.requires).0 in
    omega arith

pub loop-rest-preserved : goal.loop-rest-preserved
loop-rest-preserved c =
    let a = c.args in
    let rest = c.loop-rest.rest.now in
    let number = c.number_of-number.result in
    let run = c.run_at-run.ensures in
    let m = c.run_at-run.result in
    let some = c.in-len1-up.len_at_least in
    let first = number_at a.k a.tags rest 0 number _ (omega arith) c.number_of-number.ensures in
    subst (λ bs. Holding a.k a.tags a.points.now bs c.fill.new.self) (sym (all_behind m rest))
    (holding_turn c.number_laws.ensures.order a.k a.tags m number a.points.now rest c.loop-rest.held c.fill.new.self c.loop-rest.invariant run.some run.within first run.last c.in_ok-fill.ensures)

pub returns-clause-points : goal.returns-clause-points
returns-clause-points c =
    let a = c.args in
    holding_all a.k a.tags a.points.now c.loop-rest.rest.now c.loop-rest.held c.loop-rest.invariant c.in_default.len_below c.requires
