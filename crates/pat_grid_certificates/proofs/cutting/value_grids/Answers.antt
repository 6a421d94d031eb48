use Rattle.pat_grid_certificates.proofs.Meaning.{fit_at, grids_turn}
use Rattle.pat_grid_certificates.proofs.cutting.value_grids.Goals as goal

pub value_grid-requires-clause-value : goal.value_grid-requires-clause-value
value_grid-requires-clause-value c =
    fit_at c.args.tags c.loop-value.value-index c.args.values.now c.value-item.result c.requires.values c.loop-value-test.true c.value-item.is

pub loop-value-preserved : goal.loop-value-preserved
loop-value-preserved c =
    grids_turn c.args.k c.args.tags c.loop-value.value-index c.args.values.now c.value-item.result c.loop-value.grids c.push.new.self c.in_ok-grid.grid c.loop-value-test.true c.value-item.is c.loop-value.invariant c.in_ok-grid.ensures c.in_ok-push.ensures.ok
