use Rattle.std.proofs.Common.{◌≡◌, ◌≤◌, drop, map, length}
use Rattle.pat_core.specs.Views.{node_view}
use Rattle.pat_judge_nodes.specs.scopes.Upwards.{marked_from}
use Rattle.pat_judge_nodes.proofs.scopes.above.marked_by.Given as goal

abbrev pub decreases-loop-place : goal.decreases-loop-place
decreases-loop-place l = l.place

-- the table of the nodes from the place on
abbrev pub invariant-loop-place : goal.invariant-loop-place
invariant-loop-place l = record {
  within : l.place ≤ length l.nodes;
  table : l.above ≡ marked_from (length l.nodes) l.place (map node_view (drop l.place l.nodes));
}
