use Rattle.pat_replay.proofs.Walks.{turns, ends, env_left, env_end}
use Rattle.pat_replay.proofs.names.change_env.Goals as goal

pub loop-entry-preserved : goal.loop-entry-preserved
loop-entry-preserved c =
    turns c.args.change _ _ _ _ _ _ _ c.loop-entry.invariant
    (env_left c.args.env.now c.loop-entry.entry-index c.entry-item.result c.loop-entry-test.true c.entry-item.is)
    (c.change_value.ensures c.if-not-change_value.false)

pub returns : goal.returns
returns c = λ yes. ends c.args.change _ _ _ _ c.loop-entry.invariant (env_end c.args.env.now c.loop-entry.entry-index c.loop-entry-test.false)
