use Rattle.std.proofs.Common.{◌∙◌, length, ap, subst, arith}
use Rattle.std.proofs.lemmas.Result.{on_ok_weaker}
use Rattle.pat_grid_sums.specs.Shapes.{HasSums}
use Rattle.pat_grid_sums.proofs.Splitting.{words_few, words_is}
use Rattle.pat_grid_points.proofs.Digits.{summed_below}
use Rattle.pat_grid_sums.proofs.Summing.{alike_at_sums}
use Rattle.pat_grid_sums.proofs.Holding.{alike_there}
use Rattle.pat_grid_sums.proofs.sums.add_if_alike.Goals as goal

pub add_sums-requires-clause-few : goal.add_sums-requires-clause-few
add_sums-requires-clause-few c = words_few c.args.shape.k c.requires.shape.0 c.args.shape c.requires.shape.1

pub add_sums-requires-clause-words : goal.add_sums-requires-clause-words
add_sums-requires-clause-words c = c.requires.gathered ∙ words_is c.args.shape.k c.requires.shape.0 c.args.shape c.requires.shape.1

pub add_sums-requires-clause-sums : goal.add_sums-requires-clause-sums
add_sums-requires-clause-sums c = c.requires.long ∙ words_is c.args.shape.k c.requires.shape.0 c.args.shape c.requires.shape.1

pub has_sums-requires-clause-few : goal.has_sums-requires-clause-few
has_sums-requires-clause-few c = let few = words_few c.args.shape.k c.requires.shape.0 c.args.shape c.requires.shape.1 in omega arith

pub has_sums-requires-clause-long : goal.has_sums-requires-clause-long
has_sums-requires-clause-long c =
    let s = c.args.shape in
    let few = words_few s.k c.requires.shape.0 s c.requires.shape.1 in
    let is = words_is s.k c.requires.shape.0 s c.requires.shape.1 in
    let long = ap length c.as_slice.ensures ∙ c.requires.long in
    omega arith

pub has_sums-requires-clause-room : goal.has_sums-requires-clause-room
has_sums-requires-clause-room c =
    let s = c.args.shape in
    let is = words_is s.k c.requires.shape.0 s c.requires.shape.1 in
    let long = ap length c.as_slice.ensures ∙ c.requires.long in
    λ v l. let below = summed_below s.k s.high c.args.other v in omega arith

pub returns-then-has_sums : goal.returns-then-has_sums
returns-then-has_sums c = λ moved gathered.
    let a = c.args in
    let s = a.shape in
    alike_there s a.ones.now moved a.gathered.now a.sums.now a.word a.other a.bits (words_is s.k c.requires.shape.0 s c.requires.shape.1) gathered c.requires.bits
    (subst (λ xs. HasSums s.k s.high a.other xs a.bits 0 1) c.as_slice.ensures (c.has_sums.ensures c.if-has_sums.true))

pub returns : goal.returns
returns c = λ moved gathered.
    let a = c.args in
    let s = a.shape in
    on_ok_weaker c.add_sums.result
    (alike_at_sums s a.ones.now moved a.gathered.now a.sums.now c.add_sums.new.sums a.word a.other (words_is s.k c.requires.shape.0 s c.requires.shape.1) (let same = c.if-ones-other.false in omega arith) gathered)
    c.add_sums.ensures
