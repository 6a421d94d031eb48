use Rattle.pat_replay.proofs.Walks.{turns, ends, values_left, values_end}
use Rattle.pat_replay.proofs.names.change_values.Goals as goal

pub loop-value-preserved : goal.loop-value-preserved
loop-value-preserved c =
    turns c.args.change _ _ _ _ _ _ _ c.loop-value.invariant
    (values_left c.args.values.now c.loop-value.value-index c.value-item.result c.loop-value-test.true c.value-item.is)
    (c.change_value.ensures c.if-not-change_value.false)

pub returns : goal.returns
returns c = λ yes. ends c.args.change _ _ _ _ c.loop-value.invariant (values_end c.args.values.now c.loop-value.value-index c.loop-value-test.false)
