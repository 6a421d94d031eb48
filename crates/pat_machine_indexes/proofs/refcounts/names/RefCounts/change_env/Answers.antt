use Rattle.pat_machine_indexes.proofs.Turns.{fits_one, turns}
use Rattle.pat_machine_indexes.proofs.Sums.{env_left}
use Rattle.pat_machine_indexes.proofs.refcounts.names.RefCounts.change_env.Goals as goal

pub change_value-requires : goal.change_value-requires
change_value-requires c =
    fits_one c.args.change c.loop-entry.self _ _ _
    (env_left c.args.env.now c.loop-entry.entry-index c.entry-item.result c.loop-entry-test.true c.entry-item.is)
    c.loop-entry.invariant.fits

pub loop-entry-preserved : goal.loop-entry-preserved
loop-entry-preserved c =
    turns _ _ _ _ c.loop-entry.invariant
    (env_left c.args.env.now c.loop-entry.entry-index c.entry-item.result c.loop-entry-test.true c.entry-item.is)
    c.change_value.ensures
