use Rattle.std.proofs.Common.{◌≡◌, length, subst, arith}
use Rattle.pat_grid_sums.specs.Systems.{setting_in, Passed}
use Rattle.pat_grid_sums.proofs.Looking.{pass_begins, pass_goes_on}
use Rattle.pat_grid_sums.proofs.least.pass.Goals as goal

pub loop-s-init : goal.loop-s-init
loop-s-init c =
    let a = c.args in
    pass_begins (setting_in a.system.now) a.shape.width a.shape.words (length a.system.now.symbols.now) a.before a.sets.now a.marks.now.looked a.marks.now.changed c.requires.stands

pub look-requires-clause-stands : goal.look-requires-clause-stands
look-requires-clause-stands c = c.loop-s.invariant.stands

pub loop-s-preserved : goal.loop-s-preserved
loop-s-preserved c =
    let a = c.args in
    pass_goes_on (setting_in a.system.now) a.shape.width a.shape.words (length a.system.now.symbols.now) c.loop-s.s a.before c.loop-s.sets c.look.new.sets c.loop-s.marks.looked c.loop-s.marks.changed c.look.new.marks.looked c.look.new.marks.changed c.loop-s.changed c.in_ok-grew.grew c.is_either-changed.result c.loop-s.invariant c.in_ok-grew.ensures c.is_either-changed.ensures

pub returns : goal.returns
returns c =
    let a = c.args in
    let n = length a.system.now.symbols.now in
    let e : c.loop-s.s ≡ n = (let past = c.loop-s-test.false in let end = c.loop-s.auto.s-end in omega arith) in
    subst (λ m. Passed (setting_in a.system.now) a.shape.width a.shape.words n m a.before c.loop-s.sets c.loop-s.marks.looked c.loop-s.marks.changed c.loop-s.changed) e c.loop-s.invariant
