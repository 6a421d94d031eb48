use Rattle.std.proofs.Common.{◌≡◌, ◌++◌, map, drop}
use Rattle.pat_infer_spec.specs.Binders.{binder_constraints}
use Rattle.pat_types.specs.Views.{node_type_view}
use Rattle.pat_infer_problems.specs.Views.{placed_constraint, placed_variable_of, constraint_view}
use Rattle.pat_infer_terms.specs.Views.{binder_view}
use Rattle.pat_infer_terms.proofs.names.constrain_names.Given as goal

-- the constraints that are added, and those of the names that are left
abbrev pub invariant-loop-binder : goal.invariant-loop-binder
invariant-loop-binder l = record {
  constraints : map constraint_view l.problem.constraints ++ map (placed_constraint l.fn.program) (binder_constraints l.fn.function (map binder_view (drop l.binder-index l.binders))) ≡ map constraint_view l.fn.problem.constraints ++ map (placed_constraint l.fn.program) (binder_constraints l.fn.function (map binder_view l.binders));
  vars : map placed_variable_of l.problem.vars ≡ map placed_variable_of l.fn.problem.vars;
  nodes : map node_type_view l.problem.nodes ≡ map node_type_view l.fn.problem.nodes;
}
