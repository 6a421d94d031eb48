use Rattle.std.proofs.Common.{rules, ◌≡◌, ◌+◌, ◌<◌, ◌≤◌, ◌-◌, ◌^◌, true, false, [], refl, ap}
use Rattle.std.specs.Prelude.{get_or}
use Rattle.pat_inclusion_spec.specs.Points.{grid_fits}
use Rattle.pat_solve_bounds.specs.lower_bounds.Sides.{sides_list}
use Rattle.pat_solve_bounds.specs.renumbered.Systems.{picked}
use Rattle.pat_solve_grids.specs.Rights.{all_flat}
use Rattle.pat_solve_grids.proofs.Whole.{out_of_bounds, bound_is, bounded_by, not_bounded, too_great}
use Rattle.pat_solve_grids.proofs.bounds.grid_bound.Goals as goal

pub returns-then-not-are_flat-clause-none : goal.returns-then-not-are_flat-clause-none
returns-then-not-are_flat-clause-none c =
    let zs = sides_list c.as_slice-constraints.result.now in
    let ns = c.constraints_of-numbers.result.now in
    let flat : all_flat (picked zs ns) ≡ false = search rules in
    out_of_bounds c.args.program.now c.args.problem.now c.args.index.now c.args.interface c.requires.problem c.requires.index c.requires.interface zs ns (get_or c.args.index.now.variables c.args.interface []) (ap sides_list c.as_slice-constraints.ensures) c.constraints_of-numbers.ensures refl c.requires.sides flat

pub returns-then-degree-clause-none : goal.returns-then-degree-clause-none
returns-then-degree-clause-none c =
    let zs = sides_list c.as_slice-constraints.result.now in
    let ns = c.constraints_of-numbers.result.now in
    let high : 2 ^ 32 - 1 ≤ c.greatest_degree-degree.result = search rules in
    too_great c.args.program.now c.args.problem.now c.args.index.now c.args.interface c.requires.problem c.requires.index c.requires.interface zs ns (get_or c.args.index.now.variables c.args.interface []) (ap sides_list c.as_slice-constraints.ensures) c.constraints_of-numbers.ensures refl c.requires.sides c.greatest_degree-degree.result c.requires.well c.requires.there c.greatest_degree-degree.ensures high

pub returns-then-not-is_grid-clause-none : goal.returns-then-not-is_grid-clause-none
returns-then-not-is_grid-clause-none c =
    let zs = sides_list c.as_slice-constraints.result.now in
    let ns = c.constraints_of-numbers.result.now in
    let degree = c.greatest_degree-degree.result in
    let low : degree < 2 ^ 32 - 1 = search rules in
    let not_grid : grid_fits (degree + 1) c.tag_count-tags.result ≡ false = search rules in
    not_bounded c.args.program.now c.args.problem.now c.args.index.now c.args.interface c.requires.problem c.requires.index c.requires.interface zs ns (get_or c.args.index.now.variables c.args.interface []) (ap sides_list c.as_slice-constraints.ensures) c.constraints_of-numbers.ensures refl c.requires.sides degree c.tag_count-tags.result c.tag_count-tags.ensures c.greatest_degree-degree.ensures low not_grid

pub returns-clause-some : goal.returns-clause-some
returns-clause-some c =
    let zs = sides_list c.as_slice-constraints.result.now in
    let ns = c.constraints_of-numbers.result.now in
    let degree = c.greatest_degree-degree.result in
    let low : degree < 2 ^ 32 - 1 = search rules in
    let grid : grid_fits (degree + 1) c.tag_count-tags.result ≡ true = search rules in
    let flat : all_flat (picked zs ns) ≡ true = search rules in (
      bounded_by c.args.program.now c.args.problem.now c.args.index.now c.args.interface c.requires.problem c.requires.index c.requires.interface zs ns (get_or c.args.index.now.variables c.args.interface []) (ap sides_list c.as_slice-constraints.ensures) c.constraints_of-numbers.ensures refl c.requires.sides degree c.tag_count-tags.result c.tag_count-tags.ensures c.greatest_degree-degree.ensures low flat grid,
      bound_is c.args.program.now c.args.problem.now c.args.index.now c.args.interface c.requires.problem c.requires.index c.requires.interface zs ns (get_or c.args.index.now.variables c.args.interface []) (ap sides_list c.as_slice-constraints.ensures) c.constraints_of-numbers.ensures refl c.requires.sides degree c.greatest_degree-degree.ensures low,
    )
