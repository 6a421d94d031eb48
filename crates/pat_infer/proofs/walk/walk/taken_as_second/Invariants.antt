use Rattle.std.proofs.Common.{◌≡◌, ◌++◌, drop}
use Rattle.pat_infer_spec.specs.Needs.{needs_second}
use Rattle.pat_types.specs.Views.{needs_view}
use Rattle.pat_infer.proofs.walk.walk.taken_as_second.Given as goal

-- the copies, and the needs that are left as second-class
abbrev pub invariant-loop-variable : goal.invariant-loop-variable
invariant-loop-variable l = needs_view l.second ++ needs_second (needs_view (drop l.variable-index l.needs)) ≡ needs_second (needs_view l.needs)
