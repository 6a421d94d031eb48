use Rattle.std.proofs.Common.{◌≡◌, ◌+◌, ◌++◌, drop, map}
use Rattle.pat_core.specs.Views.{program_view}
use Rattle.pat_derivations.specs.Views.{lines_view}
use Rattle.pat_derivation_text_spec.specs.DerivationText.{node_line, numbered, text_of_lines}
use Rattle.pat_deriv.proofs.lines.put_nodes.Given as goal

abbrev pub invariant-loop-node : goal.invariant-loop-node
invariant-loop-node l = record {
  whole : l.out.items ++ text_of_lines (numbered (node_line (program_view l.program)) l.number (lines_view (drop l.node-index l.nodes))) ≡ l.initial.out.items ++ text_of_lines (numbered (node_line (program_view l.program)) 0 (lines_view l.nodes));
  counted : l.number ≡ 0 + l.node-index;
}
