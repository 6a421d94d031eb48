use Rattle.std.proofs.Common.{◌≡◌, ◌∙◌, ap, arith}
use Rattle.pat_inclusion_spec.specs.bounds.Numbers.{point_of}
use Rattle.pat_grid_points.proofs.Sets.{run_turn}
use Rattle.pat_grid_points.proofs.grid.Grid.list_run.Goals as goal

pub point_behind-bag-requires : goal.point_behind-bag-requires
point_behind-bag-requires c = λ i e.
    let g = c.args.self.now in
    c.loop-number.invariant.0 ∙ ap (point_of g.k g.tags) (let same : c.loop-number.number ≡ i = omega arith in same)

pub loop-number-preserved : goal.loop-number-preserved
loop-number-preserved c =
    let g = c.args.self.now in
    let l = c.loop-number in (
      c.point_behind-bag.ensures,
      run_turn g.k g.tags l.number c.args.to l.bags c.push.new.self l.bag c.loop-number-test.true c.in_ok-push.ensures.ok l.invariant.0 ∙ l.invariant.1,
    )
