use Rattle.std.proofs.Common.{◌≡◌, replicate, length, sym, subst, arith}
use Rattle.pat_grid_sums.specs.Sets.{Puts, AnyBefore}
use Rattle.pat_grid_sums.specs.Shapes.{IsFirstSum}
use Rattle.pat_grid_sums.proofs.Putting.{puts_begun, puts_more}
use Rattle.pat_grid_sums.proofs.Alike.{firsts_are_all}
use Rattle.pat_grid_sums.proofs.sums.sums_of.Goals as goal

pub loop-word-init : goal.loop-word-init
loop-word-init c =
    let a = c.args in
    let P = IsFirstSum a.ones.now a.moved.now a.shape in
    let zeros = replicate a.shape.words 0 in
    subst (Puts (AnyBefore P 0) zeros) (sym c.in_ok-sums.ensures) (puts_begun P zeros)

pub loop-word-preserved : goal.loop-word-preserved
loop-word-preserved c =
    let a = c.args in
    puts_more (IsFirstSum a.ones.now a.moved.now a.shape) c.loop-word.word (replicate a.shape.words 0) c.loop-word.sums c.add_alike.new.sums c.loop-word.invariant c.in_ok-add_alike.ensures

pub returns : goal.returns
returns c =
    let a = c.args in
    let zeros = replicate a.shape.words 0 in
    let e : c.loop-word.word ≡ length a.ones.now = (let past = c.loop-word-test.false in let end = c.loop-word.auto.word-end in omega arith) in
    firsts_are_all a.shape a.ones.now a.moved.now c.loop-word.sums
    (subst (λ m. Puts (AnyBefore (IsFirstSum a.ones.now a.moved.now a.shape) m) zeros c.loop-word.sums) e c.loop-word.invariant)
