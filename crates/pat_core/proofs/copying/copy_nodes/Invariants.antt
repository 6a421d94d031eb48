use Rattle.std.proofs.Common.{◌≡◌, ◌++◌, drop, map}
use Rattle.pat_core.specs.Views.{node_view}
use Rattle.pat_core.specs.Spans.{node_span}
use Rattle.pat_core.proofs.copying.copy_nodes.Given as goal

-- what is copied, and what is left, are the whole
abbrev pub invariant-loop-node : goal.invariant-loop-node
invariant-loop-node l = record {
  same : map node_view l.copied ++ map node_view (drop l.node-index l.node-items) ≡ map node_view l.nodes;
  spans : map node_span l.copied ++ map node_span (drop l.node-index l.node-items) ≡ map node_span l.nodes;
}
