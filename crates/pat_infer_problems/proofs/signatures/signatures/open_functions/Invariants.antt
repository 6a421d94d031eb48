use Rattle.std.proofs.Common.{◌≡◌, ◌+◌, ◌++◌, length, map, drop}
use Rattle.std.specs.List.{flat_map}
use Rattle.pat_core.specs.Views.{function_view}
use Rattle.pat_types.specs.Views.{node_type_view}
use Rattle.pat_infer_problems.specs.Views.{placed_variable_of, constraint_view}
use Rattle.pat_infer_problems.specs.signatures.Opened.{signatures_from}
use Rattle.pat_infer_problems.specs.signatures.Views.{signature_view, function_variables}
use Rattle.pat_infer_problems.proofs.signatures.signatures.open_functions.Given as goal

-- what is made, and what the functions that are left give, are the whole
abbrev pub invariant-loop-function : goal.invariant-loop-function
invariant-loop-function l = record {
  signatures : map signature_view l.signatures ++ signatures_from (1 + length l.problem.vars) (map function_view (drop l.function-index l.functions)) ≡ signatures_from (1 + length l.fn.problem.vars) (map function_view l.functions);
  vars : map placed_variable_of l.problem.vars ++ flat_map function_variables (drop l.function-index l.functions) ≡ map placed_variable_of l.fn.problem.vars ++ flat_map function_variables l.functions;
  constraints : map constraint_view l.problem.constraints ≡ map constraint_view l.fn.problem.constraints;
  nodes : map node_type_view l.problem.nodes ≡ map node_type_view l.fn.problem.nodes;
}
