use Rattle.std.proofs.Common.{arith}
use Rattle.pat_bags.specs.Views.{word_of}
use Rattle.pat_grid_points.proofs.Digits.{points_fit, digit_room}
use Rattle.pat_grid_points.proofs.numbers.number_of.Goals as goal

pub overflow_mul-number : goal.overflow_mul-number
overflow_mul-number c =
    let room = digit_room c.args.k c.args.tags c.loop-tag.tag (word_of c.args.word.now) (points_fit c.args.k c.args.tags c.requires) c.loop-tag-test.true in
    let is = c.loop-tag.invariant in
    rw is (omega arith)

pub overflow_add-number : goal.overflow_add-number
overflow_add-number c =
    let room = digit_room c.args.k c.args.tags c.loop-tag.tag (word_of c.args.word.now) (points_fit c.args.k c.args.tags c.requires) c.loop-tag-test.true in
    let is = c.loop-tag.invariant in
    rw is (omega (arith, c.min.ensures, c.get.ensures.value))
