use Rattle.std.proofs.Common.{length, refl, sym, ap, subst, arith}
use Rattle.std.proofs.lemmas.Bool.{eq-eqb}
use Rattle.pat_inclusion_spec.specs.bounds.Trees.{bounds_of}
use Rattle.pat_patterns.specs.Views.{patterns_view}
use Rattle.pat_grid_points.specs.symbols.Views.{symbols_view}
use Rattle.pat_solve_bounds.specs.lower_bounds.Sides.{sides_list}
use Rattle.pat_solve_bounds.specs.renumbered.Renaming.{place_in, renamed}
use Rattle.pat_solve_grids.specs.Laying.{TagsBelow, AreSidesLaid}
use Rattle.pat_solve_grids.proofs.Sharing.{batch_board, batch_tags, batch_ready, batch_least}
use Rattle.pat_solve_grids.proofs.batches.search_batch.Goals as goal

pub settled_sizes-requires : goal.settled_sizes-requires
settled_sizes-requires c =
    batch_board _ c.requires.fits c.count_points.ensures (omega arith) refl
    (subst (λ xs. TagsBelow c.args.tags (symbols_view xs)) (sym c.as_slice.ensures)
    (batch_tags c.args.k c.args.tags (place_in c.args.variables.now) (patterns_view c.args.system.now) (sides_list c.args.constraints.now) c.args.numbers.now c.args.from _ _ _ c.in_ok-roots.roots c.in_ok-sides.sides (ap symbols_view c.in_ok-shared.ensures) c.requires.system c.requires.sides c.in_ok-roots.ensures c.in_ok-sides.ensures.laid))

pub rows_if-requires-clause-board : goal.rows_if-requires-clause-board
rows_if-requires-clause-board c =
    batch_board _ c.requires.fits c.count_points.ensures c.in_ok-limit.ensures.limit refl
    (subst (λ xs. TagsBelow c.args.tags (symbols_view xs)) (sym c.as_slice.ensures)
    (batch_tags c.args.k c.args.tags (place_in c.args.variables.now) (patterns_view c.args.system.now) (sides_list c.args.constraints.now) c.args.numbers.now c.args.from _ _ _ c.in_ok-roots.roots c.in_ok-sides.sides (ap symbols_view c.in_ok-shared.ensures) c.requires.system c.requires.sides c.in_ok-roots.ensures c.in_ok-sides.ensures.laid))

pub read_each-requires-clause-ready : goal.read_each-requires-clause-ready
read_each-requires-clause-ready c = record {
  board =
      batch_board _ c.requires.fits c.count_points.ensures c.in_ok-limit.ensures.limit refl
      (subst (λ xs. TagsBelow c.args.tags (symbols_view xs)) (sym c.as_slice.ensures)
      (batch_tags c.args.k c.args.tags (place_in c.args.variables.now) (patterns_view c.args.system.now) (sides_list c.args.constraints.now) c.args.numbers.now c.args.from _ _ _ c.in_ok-roots.roots c.in_ok-sides.sides (ap symbols_view c.in_ok-shared.ensures) c.requires.system c.requires.sides c.in_ok-roots.ensures c.in_ok-sides.ensures.laid));
  all = c.in_ok-limit.ensures.all;
  done = c.in_ok-limit.ensures.done;
  none = refl;
}

pub read_each-requires-clause-within : goal.read_each-requires-clause-within
read_each-requires-clause-within c =
    let same = ap length c.as_slice-listed.ensures in
    let within = c.in_ok-sides.ensures.within in
    omega (arith, same, within)

pub returns-clause-found : goal.returns-clause-found
returns-clause-found c =
    let place = place_in c.args.variables.now in
    let zs = sides_list c.args.constraints.now in
    let system = patterns_view c.args.system.now in
    let more = subst (λ xs. AreSidesLaid place zs c.args.numbers.now c.args.from (symbols_view c.lay_system.new.shared.symbols) (symbols_view xs) c.in_ok-sides.sides) (sym c.as_slice.ensures) c.in_ok-sides.ensures.laid in
    c.in_ok-found.ensures (bounds_of system) (renamed place) zs
    (batch_ready _ system place zs c.args.numbers.now c.args.from c.in_ok-limit.entries c.closed_laws.ensures.search c.in_ok-limit.ensures.done c.in_ok-limit.ensures.limit _ _ c.in_ok-roots.roots c.in_ok-roots.ensures c.in_ok-sides.sides more c.as_slice-2.ensures c.requires.sides c.as_slice-listed.result.now c.as_slice-listed.ensures c.in_ok-sides.ensures.within c.in_ok-limit.ensures.settled)
    c.requires.found

pub returns-clause-least : goal.returns-clause-least
returns-clause-least c = λ first.
    let place = place_in c.args.variables.now in
    let zs = sides_list c.args.constraints.now in
    let system = patterns_view c.args.system.now in
    let more = subst (λ xs. AreSidesLaid place zs c.args.numbers.now c.args.from (symbols_view c.lay_system.new.shared.symbols) (symbols_view xs) c.in_ok-sides.sides) (sym c.as_slice.ensures) c.in_ok-sides.ensures.laid in
    batch_least _ system place zs c.args.numbers.now c.args.from c.in_ok-limit.entries c.closed_laws.ensures.search c.in_ok-limit.ensures.done c.in_ok-limit.ensures.limit _ _ c.in_ok-roots.roots c.in_ok-roots.ensures c.in_ok-sides.sides more c.as_slice-2.ensures c.count_points.ensures c.in_ok-grids.grids
    (c.in_ok-grids.ensures (eq-eqb c.args.from 0 first))
