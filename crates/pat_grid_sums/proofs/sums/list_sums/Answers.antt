use Rattle.std.proofs.Common.{◌<◌, ◌*◌, get_or, sym, subst, arith}
use Rattle.pat_grid_sums.specs.Sets.{Lists}
use Rattle.pat_grid_sums.specs.Shapes.{Has}
use Rattle.pat_grid_sums.specs.Systems.{IsSumOf}
use Rattle.pat_grid_sums.proofs.Splitting.{all_points, word_within, some_places}
use Rattle.pat_grid_sums.proofs.Summing.{own_shape, sums_made}
use Rattle.pat_grid_sums.proofs.sums.list_sums.Goals as goal

pub set_of-requires-clause-numbers : goal.set_of-requires-clause-numbers
set_of-requires-clause-numbers c = λ i l.
    let s = c.shape_of-shape.result in
    let shape = c.shape_of-shape.ensures in
    word_within c.args.k c.args.tags s shape (get_or c.args.firsts.now i 0)
    (subst (λ n. get_or c.args.firsts.now i 0 < n) (sym (all_points c.args.k c.args.tags s shape)) (c.requires.firsts i l))

pub set_of-requires-2-clause-numbers : goal.set_of-requires-2-clause-numbers
set_of-requires-2-clause-numbers c = λ i l.
    let s = c.shape_of-shape.result in
    let shape = c.shape_of-shape.ensures in
    word_within c.args.k c.args.tags s shape (get_or c.args.seconds.now i 0)
    (subst (λ n. get_or c.args.seconds.now i 0 < n) (sym (all_points c.args.k c.args.tags s shape)) (c.requires.seconds i l))

pub overflow_mul-points : goal.overflow_mul-points
overflow_mul-points c =
    let shape = c.shape_of-shape.ensures in
    let all = all_points c.args.k c.args.tags c.shape_of-shape.result shape in
    let few = shape.few in
    omega arith

pub list_all-requires-clause-some : goal.list_all-requires-clause-some
list_all-requires-clause-some c = some_places c.args.k c.args.tags c.shape_of-shape.result c.shape_of-shape.ensures

pub sums_of_sets-requires-clause-shape : goal.sums_of_sets-requires-clause-shape
sums_of_sets-requires-clause-shape c = (c.args.tags, own_shape c.args.k c.args.tags c.shape_of-shape.result c.shape_of-shape.ensures)

pub returns : goal.returns
returns c =
    let s = c.shape_of-shape.result in
    let n = c.args.tags in
    let ones = c.in_ok-ones.ones in
    let others = c.in_ok-others.others in
    let sums = c.in_ok-sums.sums in
    let numbers = c.in_ok-numbers.numbers in
    sums_made c.args.k n s c.shape_of-shape.ensures c.args.firsts.now c.args.seconds.now ones others sums numbers c.in_ok-ones.ensures c.in_ok-others.ensures
    (subst (λ xs. Has (IsSumOf s n xs others) s.words sums) c.as_slice.ensures (subst (λ xs. Has (IsSumOf s n c.as_slice.result.now xs) s.words sums) c.as_slice-2.ensures (c.in_ok-sums.ensures n (own_shape c.args.k n s c.shape_of-shape.ensures))))
    (subst (λ xs. Lists xs s.width (s.words * s.width) numbers) c.as_slice-3.ensures c.in_ok-numbers.ensures)
    c.requires.firsts c.requires.seconds
