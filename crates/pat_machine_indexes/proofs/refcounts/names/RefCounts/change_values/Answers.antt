use Rattle.pat_machine_indexes.proofs.Turns.{fits_one, turns}
use Rattle.pat_machine_indexes.proofs.Sums.{values_left}
use Rattle.pat_machine_indexes.proofs.refcounts.names.RefCounts.change_values.Goals as goal

pub change_value-requires : goal.change_value-requires
change_value-requires c =
    fits_one c.args.change c.loop-value.self _ _ _
    (values_left c.args.values.now c.loop-value.value-index c.value-item.result c.loop-value-test.true c.value-item.is)
    c.loop-value.invariant.fits

pub loop-value-preserved : goal.loop-value-preserved
loop-value-preserved c =
    turns _ _ _ _ c.loop-value.invariant
    (values_left c.args.values.now c.loop-value.value-index c.value-item.result c.loop-value-test.true c.value-item.is)
    c.change_value.ensures
