use Rattle.std.proofs.Common.{◌≡◌, ◌<◌, ◌∙◌, false, get_or, length, arith}
use Rattle.pat_bags.specs.Views.{word_of}
use Rattle.pat_grid_points.proofs.Sets.{missing_at}
use Rattle.pat_grid_points.proofs.grid.Grid.missing.Goals as goal

pub returns-then-not-get-clause-some : goal.returns-then-not-get-clause-some
returns-then-not-get-clause-some c =
    let s = c.args.self.now in
    let o = c.args.other.now in
    let number = c.loop-number.number in
    let below = c.loop-number-test.true in
    let count = c.len.ensures in
    let l : number < length s.held = omega arith in
    let out : get_or o.held number false ≡ false = c.get.ensures false ∙ c.if-not-get.true in
    missing_at s.k s.tags o.k o.tags number s.held o.held (word_of c.bag_of.result) c.requires s.counted l (c.loop-number.invariant.1 l) out c.bag_of.ensures
