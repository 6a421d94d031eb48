use Rattle.std.proofs.Common.{◌≡◌, length, map, subst}
use Rattle.std.specs.Prelude.{IfOk}
use Rattle.pat_core.specs.Views.{node_view}
use Rattle.pat_judge_nodes.specs.scopes.Upwards.{marked_from}
use Rattle.pat_judge_nodes.proofs.Tables.{table_above}
use Rattle.pat_judge_nodes.proofs.scopes.above.nodes_above.Goals as goal

pub returns : goal.returns
returns c =
    table_above c.args.program.now c.marked_by.result
    (subst (λ ns. IfOk c.marked_by.result (λ a. a ≡ marked_from (length ns) 0 (map node_view ns))) c.as_slice.ensures c.marked_by.ensures)
