use Rattle.std.proofs.Common.{◌-◌, ◌<◌, [], length, sym, subst, ◌∙◌, arith}
use Rattle.std.proofs.lemmas.List.{get_or_default}
use Rattle.pat_grid_sums.specs.Shapes.{IsSum, Has}
use Rattle.pat_grid_sums.proofs.Splitting.{width_is}
use Rattle.pat_grid_sums.proofs.Summing.{moved_on, moved_more}
use Rattle.pat_grid_sums.proofs.Stepping.{if_ok}
use Rattle.pat_grid_sums.proofs.moving.moved_if.Goals as goal

pub returns-then-is_used : goal.returns-then-is_used
returns-then-is_used c =
    let s = c.args.shape in
    let others = c.args.others.now in
    let all = c.args.all.now in
    let unit = c.unit_of-unit.result in
    let rest = c.args.place - unit in
    let before = c.requires.before in
    let many = before.as_many in
    let some = c.if-unit-gt0.true in
    let within = c.unit_of-unit.ensures.within in
    let less : rest < c.args.place = omega arith in
    let there : rest < length all = omega arith in
    let is = c.as_slice.ensures ∙ c.index-all-place.is ∙ get_or_default all rest c.index-all-place.result [] there in
    let once = subst (Has (IsSum others s rest) (length others)) (sym is) (before.moved rest 0 less (let e : 0 < 1 = omega arith in e) (c.is_used-then-unit-gt0.ensures.0 c.if-is_used.true)) in
    if_ok _ _ _ (λ new twice.
    let has : Has (IsSum others s c.args.place) (length others) new = moved_on s others c.as_slice.result.now new unit rest c.args.place (width_is s.k c.requires.shape.0 s c.requires.shape.1) c.unit_of-unit.ensures.sum once twice in
    moved_more c.args.used others s c.args.place all new before (let m = has.as_many in omega arith) (λ _. has)) c.moved_by.ensures

pub returns : goal.returns
returns c =
    let others = c.args.others.now in
    if_ok _ _ _ (λ new has. moved_more c.args.used others c.args.shape c.args.place c.args.all.now new c.requires.before (let m = has.as_many in omega arith) (λ _. has)) c.moved_by-2.ensures
