use Rattle.std.proofs.Common.{◌≡◌, ◌++◌, map, option_map, drop}
use Rattle.pat_infer_spec.specs.Binders.{names_bound, param_names}
use Rattle.pat_core.specs.Views.{sort_view}
use Rattle.pat_types.specs.Views.{type_view, needs_view}
use Rattle.pat_infer_environments.specs.Types.{types_at}
use Rattle.pat_infer_terms.specs.Views.{binder_view}
use Rattle.pat_infer.proofs.walk.function.bind_parameters.Given as goal

-- the names that are bound, and those of the parameters that are left
abbrev pub invariant-loop-place : goal.invariant-loop-place
invariant-loop-place l = map binder_view l.binders ++ names_bound (types_at (map (option_map type_view) l.types)) l.place (param_names l.place (map sort_view (drop l.place l.params))) (needs_view l.needs) ≡ names_bound (types_at (map (option_map type_view) l.types)) 0 (param_names 0 (map sort_view l.params)) (needs_view l.needs)
