use Rattle.std.proofs.Common.{◌≡◌, drop}
use Rattle.pat_type_schemes_spec.specs.NodeTypes.{need_of}
use Rattle.pat_types.specs.Views.{needs_view}
use Rattle.pat_infer_environments.proofs.needs.find.Given as goal

-- what is needed is needed by those that are left
abbrev pub invariant-loop-other : goal.invariant-loop-other
invariant-loop-other l = need_of (needs_view (drop l.other-index l.needs)) l.variable ≡ need_of (needs_view l.needs) l.variable
