use Rattle.std.proofs.Common.{◌≡◌, ◌++◌, map, drop}
use Rattle.pat_infer_spec.specs.Branches.{each_receives}
use Rattle.pat_types.specs.Views.{node_type_view}
use Rattle.pat_infer_problems.specs.Views.{placed_constraint, placed_variable_of, constraint_view}
use Rattle.pat_infer_environments.specs.Combining.{column_view}
use Rattle.pat_infer_environments.proofs.branching.add_each.Given as goal

-- the constraints that are added, and those of the needs that are left
abbrev pub invariant-loop-need : goal.invariant-loop-need
invariant-loop-need l = record {
  constraints : map constraint_view l.problem.constraints ++ map (placed_constraint l.program) (each_receives l.node l.number l.interface (column_view (drop l.need-index l.needs))) ≡ map constraint_view l.fn.problem.constraints ++ map (placed_constraint l.program) (each_receives l.node l.number l.interface (column_view l.needs));
  vars : map placed_variable_of l.problem.vars ≡ map placed_variable_of l.fn.problem.vars;
  nodes : map node_type_view l.problem.nodes ≡ map node_type_view l.fn.problem.nodes;
}
