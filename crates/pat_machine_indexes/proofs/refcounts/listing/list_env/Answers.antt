use Rattle.pat_machine_indexes.proofs.Lists.{turns, ends}
use Rattle.pat_machine_indexes.proofs.Sums.{env_left, env_end}
use Rattle.pat_machine_indexes.proofs.refcounts.listing.list_env.Goals as goal

pub loop-entry-preserved : goal.loop-entry-preserved
loop-entry-preserved c =
    turns _ _ _ _ c.loop-entry.invariant
    (env_left c.args.env.now c.loop-entry.entry-index c.entry-item.result c.loop-entry-test.true c.entry-item.is)
    c.in_ok-list_value.ensures

pub returns : goal.returns
returns c = ends _ c.loop-entry.invariant (env_end c.args.env.now c.loop-entry.entry-index c.loop-entry-test.false)
