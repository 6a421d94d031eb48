use Rattle.std.proofs.Common.{◌≡◌, drop}
use Rattle.pat_semantics_spec.specs.Programs.{is_among}
use Rattle.pat_infer_environments.proofs.needs.is_named.Given as goal

-- it is among the names just where it is among those that are left
abbrev pub invariant-loop-name : goal.invariant-loop-name
invariant-loop-name l = is_among l.variable (drop l.name-index l.names) ≡ is_among l.variable l.names
