use Rattle.std.proofs.Common.{◌<◌, map, sym, ap, ◌∙◌, subst}
use Rattle.std.proofs.lemmas.List.{get_or-map, length-map}
use Rattle.pat_semantics_spec.specs.Values.{Const, UnitConst}
use Rattle.pat_core.specs.Views.{program_view}
use Rattle.pat_reduce_values.specs.ValueViews.{value_view}
use Rattle.pat_machine_indexes.specs.ready_sets.ReadySets.{WakesThose}
use Rattle.pat_machine_steps.specs.wakeups.Sleepers.{FreesValue}
use Rattle.pat_machine_steps.proofs.Turns.{brought_more}
use Rattle.pat_machine_steps.proofs.wakeups.waking.wake_brought.Goals as goal

pub loop-value-preserved : goal.loop-value-preserved
loop-value-preserved c =
    let p = program_view c.args.code.now.program in
    let d = c.args.state.now.config in
    let values = c.args.values.now in
    let i = c.loop-value.value-index in
    let within = c.loop-value-test.true in
    brought_more p d (map value_view values) i (Const UnitConst) c.args.waits.now c.loop-value.waits c.wake_at_value.new.waits
    (subst (λ n. i < n) (sym (length-map values value_view)) within) c.loop-value.invariant
    (subst (λ v. WakesThose (FreesValue p d v) c.loop-value.waits c.wake_at_value.new.waits) (ap value_view c.value-item.is ∙ sym (get_or-map value_view values i c.value-item.result (Const UnitConst) within)) c.wake_at_value.ensures)
