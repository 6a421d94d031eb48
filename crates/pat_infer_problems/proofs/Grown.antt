-- A problem that grows by the type of a node.
use Rattle.std.proofs.Common.{◌≡◌, ℕ, List, [], ◌∷◌, map, sym, ap, ◌∙◌, slice_set}
use Rattle.std.proofs.lemmas.List.{append-nil, map-set}
use Rattle.pat_types.specs.Views.{node_type_view}
use Rattle.pat_types.specs.declared.types.NodeType.{NodeType as CodeNodeType}
use Rattle.pat_infer_problems.specs.Views.{placed_variable_of, constraint_view}
use Rattle.pat_infer_problems.specs.Growing.{Grows}
use Rattle.pat_infer_problems.specs.declared.problem.Problem.{Problem}

-- the type of a node is set
pub set_grows : (old : Problem) (nodes : List CodeNodeType) (n : ℕ) (t : CodeNodeType) → nodes ≡ slice_set old.nodes n t → Grows old (record { vars = old.vars; constraints = old.constraints; nodes = nodes }) [] [] ((n, node_type_view t) ∷ [])
set_grows old nodes n t h = record {
  vars = sym (append-nil (map placed_variable_of old.vars));
  constraints = sym (append-nil (map constraint_view old.constraints));
  nodes = ap (map node_type_view) h ∙ map-set node_type_view old.nodes n t;
}
