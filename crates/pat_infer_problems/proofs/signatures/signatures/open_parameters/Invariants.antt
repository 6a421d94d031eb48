use Rattle.std.proofs.Common.{◌≡◌, ◌+◌, ◌++◌, length, map, option_map, drop}
use Rattle.std.specs.List.{flat_map}
use Rattle.pat_core.specs.Views.{sort_view}
use Rattle.pat_types.specs.Views.{type_view, node_type_view}
use Rattle.pat_infer_problems.specs.Views.{placed_variable_of, constraint_view}
use Rattle.pat_infer_problems.specs.signatures.Opened.{open_params, params_end}
use Rattle.pat_infer_problems.specs.signatures.Views.{own_variable}
use Rattle.pat_infer_problems.proofs.signatures.signatures.open_parameters.Given as goal

-- what is made, and what the types that are left give, are the whole
abbrev pub invariant-loop-sort : goal.invariant-loop-sort
invariant-loop-sort l = record {
  types : map (option_map type_view) l.types ++ open_params (1 + length l.problem.vars) (map sort_view (drop l.sort-index l.sorts)) ≡ open_params (1 + length l.fn.problem.vars) (map sort_view l.sorts);
  end : params_end (1 + length l.problem.vars) (map sort_view (drop l.sort-index l.sorts)) ≡ params_end (1 + length l.fn.problem.vars) (map sort_view l.sorts);
  vars : map placed_variable_of l.problem.vars ++ flat_map own_variable (drop l.sort-index l.sorts) ≡ map placed_variable_of l.fn.problem.vars ++ flat_map own_variable l.sorts;
  constraints : map constraint_view l.problem.constraints ≡ map constraint_view l.fn.problem.constraints;
  nodes : map node_type_view l.problem.nodes ≡ map node_type_view l.fn.problem.nodes;
}
