use Rattle.std.proofs.Common.{◌≡◌, ◌++◌, map, drop}
use Rattle.pat_print_spec.specs.Canonical.{tree_onto}
use Rattle.pat_tree.specs.Views.{decl_view}
use Rattle.pat_print.specs.Parts.{bytes_of}
use Rattle.pat_print.proofs.tree_lines.Given as goal

abbrev pub invariant-loop-declaration : goal.invariant-loop-declaration
invariant-loop-declaration l = l.out.items ++ bytes_of (tree_onto (map decl_view (drop l.declaration-index l.declaration-items))) ≡ bytes_of (tree_onto (map decl_view l.tree.decls))
