use Rattle.std.proofs.Common.{◌≡◌, ◌<◌, length}
use Rattle.pat_core.specs.Views.{program_view}
use Rattle.pat_derivation_spec.specs.Scopes.{is_in_scope_within}
use Rattle.pat_judge_nodes.proofs.scopes.looking.in_scope.Given as goal

abbrev pub decreases-loop-left : goal.decreases-loop-left
decreases-loop-left l = l.left

-- it is in scope just where it is so further up
abbrev pub invariant-loop-left : goal.invariant-loop-left
invariant-loop-left l = record {
  inside : l.at < length l.program.nodes;
  same : is_in_scope_within l.left (program_view l.program) l.at l.variable ≡ is_in_scope_within (length l.program.nodes) (program_view l.program) l.node l.variable;
}
