use Rattle.std.proofs.Common.{length}
use Rattle.pat_derivations.specs.Views.{vars_view}
use Rattle.pat_solve.specs.Steps.{IsPut}
use Rattle.pat_solve.proofs.states.put_values.Given as goal

abbrev pub invariant-loop-value : goal.invariant-loop-value
invariant-loop-value l = IsPut l.interface l.variables l.fn.own (vars_view l.fn.values) l.own (vars_view l.values)

abbrev pub decreases-loop-value : goal.decreases-loop-value
decreases-loop-value l = length l.own
