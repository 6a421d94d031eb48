use Rattle.std.proofs.Common.{◌≡◌, ◌++◌, map, option_map, drop}
use Rattle.pat_infer_spec.specs.Binders.{names_bound}
use Rattle.pat_types.specs.Views.{type_view, needs_view}
use Rattle.pat_infer_environments.specs.Types.{types_at}
use Rattle.pat_infer_terms.specs.Views.{binder_view}
use Rattle.pat_infer_terms.proofs.names.bind_all.Given as goal

-- the names that are bound, and those that are left
abbrev pub invariant-loop-place : goal.invariant-loop-place
invariant-loop-place l = map binder_view l.binders ++ names_bound (types_at (map (option_map type_view) l.fn.types)) l.place (drop l.place l.fn.names) (needs_view l.fn.needs) ≡ map binder_view l.fn.binders ++ names_bound (types_at (map (option_map type_view) l.fn.types)) 0 l.fn.names (needs_view l.fn.needs)
