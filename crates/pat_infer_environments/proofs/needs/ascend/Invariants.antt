use Rattle.std.proofs.Common.{◌≡◌, drop}
use Rattle.pat_types.specs.Views.{needs_view}
use Rattle.pat_derivation_spec.specs.Derivations.{ascends_from}
use Rattle.pat_infer_environments.proofs.needs.ascend.Given as goal

abbrev pub invariant-loop-variable : goal.invariant-loop-variable
invariant-loop-variable l = ascends_from l.least (needs_view (drop l.variable-index l.needs)) ≡ ascends_from 0 (needs_view l.needs)
