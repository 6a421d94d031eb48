use Rattle.std.proofs.Common.{◌≡◌, true, ap, subst, sym, length}
use Rattle.pat_inclusion_spec.specs.bounds.Trees.{bounds_of}
use Rattle.std.specs.List.{AllByRecursion}
use Rattle.pat_words_spec.specs.Tags.{tags_below}
use Rattle.pat_patterns.specs.Views.{patterns_view}
use Rattle.pat_solve_bounds.specs.lower_bounds.Sides.{sides_list}
use Rattle.pat_solve_bounds.specs.renumbered.Renaming.{place_in, renamed}
use Rattle.pat_solve_bounds.specs.renumbered.Systems.{picked}
use Rattle.pat_solve_grids.specs.Findings.{AreFound}
use Rattle.pat_solve_grids.specs.Least.{AreLeastOf}
use Rattle.pat_solve_grids.specs.Views.{findings_view}
use Rattle.pat_solve_grids.specs.Points.{AreListed}
use Rattle.pat_solve_grids.proofs.Whole.{ascends, fit, tags_fit, searchable, grids_of}
use Rattle.pat_solve_grids.proofs.entry.interface_grids.Goals as goal

pub system_of-requires : goal.system_of-requires
system_of-requires c =
    ascends c.args.program.now c.args.problem.now c.args.index.now c.args.interface c.requires.problem c.requires.index c.requires.interface (sides_list c.as_slice-constraints.result.now) c.constraints_of-numbers.result.now c.variables_of-variables.result.now (ap sides_list c.as_slice-constraints.ensures) c.constraints_of-numbers.ensures c.variables_of-variables.ensures

pub search_each-requires-clause-fits : goal.search_each-requires-clause-fits
search_each-requires-clause-fits c =
    fit c.args.program.now c.args.problem.now c.args.index.now c.args.interface c.requires.problem c.requires.index c.requires.interface (sides_list c.as_slice-constraints.result.now) c.constraints_of-numbers.result.now c.variables_of-variables.result.now (ap sides_list c.as_slice-constraints.ensures) c.constraints_of-numbers.ensures c.variables_of-variables.ensures c.requires.sides _ c.in_ok-system.ensures c.args.k c.tag_count-tags.result c.requires.bound c.tag_count-tags.ensures c.requires.bounds

pub search_each-requires-clause-ascending : goal.search_each-requires-clause-ascending
search_each-requires-clause-ascending c =
    ascends c.args.program.now c.args.problem.now c.args.index.now c.args.interface c.requires.problem c.requires.index c.requires.interface (sides_list c.as_slice-constraints.result.now) c.constraints_of-numbers.result.now c.variables_of-variables.result.now (ap sides_list c.as_slice-constraints.ensures) c.constraints_of-numbers.ensures c.variables_of-variables.ensures

pub search_each-requires-clause-system : goal.search_each-requires-clause-system
search_each-requires-clause-system c =
    subst (λ es. AllByRecursion (λ e. tags_below c.tag_count-tags.result e ≡ true) (patterns_view es)) (sym c.as_slice.ensures)
    (tags_fit c.args.program.now c.args.problem.now c.args.index.now c.args.interface c.requires.problem c.requires.index c.requires.interface (sides_list c.as_slice-constraints.result.now) c.constraints_of-numbers.result.now c.variables_of-variables.result.now (ap sides_list c.as_slice-constraints.ensures) c.constraints_of-numbers.ensures c.variables_of-variables.ensures c.requires.sides (patterns_view c.in_ok-system.system) c.in_ok-system.ensures c.args.k c.tag_count-tags.result c.requires.bound c.tag_count-tags.ensures c.requires.bounds)

pub search_each-requires-clause-sides : goal.search_each-requires-clause-sides
search_each-requires-clause-sides c =
    searchable c.args.program.now c.args.problem.now c.args.index.now c.args.interface c.requires.problem c.requires.index c.requires.interface (sides_list c.as_slice-constraints.result.now) c.constraints_of-numbers.result.now c.variables_of-variables.result.now (ap sides_list c.as_slice-constraints.ensures) c.constraints_of-numbers.ensures c.variables_of-variables.ensures c.requires.sides (patterns_view c.in_ok-system.system) c.in_ok-system.ensures c.args.k c.tag_count-tags.result c.requires.bound c.tag_count-tags.ensures c.requires.bounds

pub returns : goal.returns
returns c =
    let made = patterns_view c.in_ok-system.system in
    let vs = c.variables_of-variables.result.now in
    let ns = c.constraints_of-numbers.result.now in
    let zs = sides_list c.as_slice-constraints.result.now in
    let grids = c.in_ok-grids.grids in
    let k = c.args.k in
    let tags = c.tag_count-tags.result in
    let findings = c.in_ok-grids.findings in
    let least = subst (λ ps. AreLeastOf k tags (patterns_view ps) grids) c.as_slice.ensures c.in_ok-grids.ensures.least in
    grids_of c.args.program.now c.args.problem.now c.args.index.now c.args.interface c.requires.problem c.requires.index c.requires.interface zs ns vs (ap sides_list c.as_slice-constraints.ensures) c.constraints_of-numbers.ensures c.variables_of-variables.ensures c.requires.sides made c.in_ok-system.ensures k tags c.requires.bound c.tag_count-tags.ensures c.requires.bounds c.points_law.ensures grids c.in_ok-points.points
    least.count
    least.like
    least.points
    (subst (λ gs. AreListed gs c.in_ok-points.points) c.as_slice-2.ensures c.in_ok-points.ensures)
    findings.refuted findings.is_oversized
    (subst (λ ps. AreFound (bounds_of (patterns_view ps)) (renamed (place_in vs)) (picked zs ns) ns (length ns) (findings_view findings)) c.as_slice.ensures c.in_ok-grids.ensures.found)
