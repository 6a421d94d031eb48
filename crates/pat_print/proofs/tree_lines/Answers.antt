use Rattle.std.proofs.Common.{◌+◌, arith, map, drop}
use Rattle.std.proofs.lemmas.Grind.{common_steps}
use Rattle.pat_tree.specs.Views.{decl_view}
use Rattle.pat_print.proofs.Lines.{tree_more}
use Rattle.pat_print.proofs.tree_lines.Goals as goal

pub loop-declaration-preserved : goal.loop-declaration-preserved
loop-declaration-preserved c =
    let e = tree_more c.loop-declaration.out.items (decl_view c.declaration-item.result) (map decl_view (drop (c.loop-declaration.declaration-index + 1) c.as_slice-declaration-items.result.now)) in
    grind (arith, common_steps, e)
