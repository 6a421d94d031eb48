use Rattle.std.proofs.Common.{sym, subst}
use Rattle.pat_solve_bounded.specs.Views.{measured_view, measured_list}
use Rattle.pat_solve_elimination.specs.declared.growing.Growth.{Growth}
use Rattle.pat_solve_elimination.specs.Resolving.{Resolves}
use Rattle.pat_solve_elimination.proofs.Resolutions.{nothing_put}
use Rattle.pat_solve_elimination.proofs.resolving.put_later.Goals as goal

pub returns-then-has_none : goal.returns-then-has_none
returns-then-has_none c =
    let ks = c.args.variables.now in
    let rs = measured_list c.args.settled.now in
    let ws = c.args.weights.now in
    let own = c.args.value.now in
    let e = measured_view own in
    let weight : Growth = record { nodes = own.nodes; levels = own.levels } in
    subst (λ x. Resolves ks rs ws e x weight) (sym c.in_ok-copy.ensures)
    (nothing_put ks rs ws e weight c.requires.own (c.has_none.ensures c.if-has_none.true) own.sizes.nodes_are own.sizes.levels_are)
