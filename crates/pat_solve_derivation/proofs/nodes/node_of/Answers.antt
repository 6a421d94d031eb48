use Rattle.std.proofs.Common.{get_or, ap, ◌∙◌}
use Rattle.pat_core.specs.Views.{node_view}
use Rattle.pat_solve_derivation.proofs.Needing.{there}
use Rattle.pat_solve_derivation.proofs.nodes.node_of.Goals as goal

pub returns : goal.returns
returns c =
    let x = c.index-as_slice-number.result in
    there node_view c.args.program.now.nodes c.args.number x c.requires (c.index-as_slice-number.is ∙ ap (λ xs. get_or xs c.args.number x) c.as_slice.ensures)
