use Rattle.std.proofs.Common.{◌≡◌, not, drop}
use Rattle.std.specs.List.{list_any}
use Rattle.std.specs.Map.{keys_of}
use Rattle.pat_semantics_spec.specs.Programs.{is_among}
use Rattle.pat_types.specs.Views.{needs_view}
use Rattle.pat_infer_terms.proofs.branches.guards.needs_outside.Given as goal

-- something else is needed just where it is among the needs that are left
abbrev pub invariant-loop-variable : goal.invariant-loop-variable
invariant-loop-variable l = list_any (λ x. not (is_among x l.fn.names)) (keys_of (needs_view (drop l.variable-index l.needs))) ≡ list_any (λ x. not (is_among x l.fn.names)) (keys_of (needs_view l.needs))
