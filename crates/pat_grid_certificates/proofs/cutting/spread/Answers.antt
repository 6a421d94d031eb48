use Rattle.std.proofs.Common.{◌≡◌, true, ◌↔◌, subst, refl, arith}
use Rattle.pat_words_spec.specs.Words.{Word}
use Rattle.pat_words_spec.specs.Cuts.{cut_at}
use Rattle.pat_inclusion_spec.specs.bounds.Numbers.{point_of}
use Rattle.pat_grid_points.specs.Views.{HasPoint}
use Rattle.pat_grid_certificates.proofs.Marking.{tests_more, spread_point}
use Rattle.pat_grid_certificates.proofs.cutting.spread.Goals as goal

pub loop-number-preserved : goal.loop-number-preserved
loop-number-preserved c =
    let own = c.args.own.now in
    tests_more (λ i. HasPoint own (cut_at own.k (point_of c.args.k own.tags i))) c.count_points-points.result c.loop-number.number c.holds.result c.loop-number.held c.set.new.self c.loop-number-test.true c.loop-number.invariant
    (subst (λ (w : Word). (c.holds.result ≡ true) ↔ HasPoint own (cut_at own.k w)) c.bag_of-point.ensures c.holds.ensures)
    c.in_ok-set.ensures.ok

pub returns-clause-points : goal.returns-clause-points
returns-clause-points c =
    let own = c.args.own.now in
    let count = c.count_points-points.ensures in
    let past = c.loop-number-test.false in
    spread_point c.args.k own.tags c.count_points-points.result own c.from_held.result c.loop-number.held c.loop-number.number refl c.from_held.ensures c.loop-number.invariant (omega arith)
