use Rattle.std.proofs.Common.{length, subst}
use Rattle.pat_grid_sums.specs.Sets.{AnyBefore}
use Rattle.pat_grid_sums.specs.Shapes.{Has, IsRowSum}
use Rattle.pat_grid_sums.proofs.Summing.{set_sums}
use Rattle.pat_grid_sums.proofs.sums.sums_of_sets.Goals as goal

pub returns : goal.returns
returns c = λ n shape.
    let a = c.args in
    let s = a.shape in
    let moved = c.in_ok-moved.moved in
    set_sums n s shape a.ones.now a.others.now moved c.in_ok-sums.sums c.requires.ones c.requires.others c.in_ok-moved.ensures
    (subst (λ xs. Has (AnyBefore (IsRowSum a.ones.now xs s) (length a.ones.now)) s.words c.in_ok-sums.sums) c.as_slice.ensures c.in_ok-sums.ensures)
