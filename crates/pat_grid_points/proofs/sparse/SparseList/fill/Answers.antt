use Rattle.std.proofs.Common.{◌≡◌, subst, arith}
use Rattle.pat_grid_points.specs.Sparse.{IsFilled}
use Rattle.pat_grid_points.proofs.InBlocks.{filled_none, filled_more}
use Rattle.pat_grid_points.proofs.sparse.SparseList.fill.Goals as goal

pub loop-done-init : goal.loop-done-init
loop-done-init g c = (omega arith, filled_none c.args.from c.args.item c.args.self.now)

pub loop-done-preserved : goal.loop-done-preserved
loop-done-preserved g c = (
  omega arith,
  filled_more c.args.from c.loop-done.done c.min-some.result c.args.item c.args.self.now c.loop-done.self c.fill_within.new.self c.loop-done.invariant.1 c.in_ok-fill_within.ensures,
)

pub returns : goal.returns
returns g c =
    let past = c.loop-done-test.false in
    let within = c.loop-done.invariant.0 in
    subst (λ n. IsFilled c.args.from n c.args.item c.args.self.now c.loop-done.self) (let e : c.loop-done.done ≡ c.args.count = omega arith in e) c.loop-done.invariant.1
