use Rattle.std.proofs.Common.{◌≡◌, ◌++◌, length, map}
use Rattle.std.specs.Vec.Iter.{into_iter_items, into_iter_len}
use Rattle.pat_types.specs.Views.{node_type_view}
use Rattle.pat_derivations.specs.Views.{lines_view}
use Rattle.pat_solve_derivation.specs.Lines.{bare_lines}
use Rattle.pat_solve_derivation.proofs.lines.bare_lines.Given as goal

-- the lines so far, and those of the types that are left
abbrev pub invariant-loop-of : goal.invariant-loop-of
invariant-loop-of l = record {
  whole : lines_view l.lines ++ bare_lines (map node_type_view (into_iter_items l.of-iterator)) ≡ bare_lines (map node_type_view (into_iter_items l.initial.of-iterator));
  count : into_iter_len l.of-iterator ≡ length (into_iter_items l.of-iterator);
}
