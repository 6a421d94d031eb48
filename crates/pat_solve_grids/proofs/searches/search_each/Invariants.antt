use Rattle.std.proofs.Common.{◌≤◌, ◌-◌, length}
use Rattle.pat_inclusion_spec.specs.bounds.Trees.{bounds_of}
use Rattle.pat_patterns.specs.Views.{patterns_view}
use Rattle.pat_solve_bounds.specs.lower_bounds.Sides.{sides_list}
use Rattle.pat_solve_bounds.specs.renumbered.Renaming.{place_in, renamed}
use Rattle.pat_solve_bounds.specs.renumbered.Systems.{picked}
use Rattle.pat_solve_grids.specs.Findings.{AreFound}
use Rattle.pat_solve_grids.specs.Views.{findings_view}
use Rattle.pat_solve_grids.proofs.searches.search_each.Given as goal

abbrev pub invariant-loop-end : goal.invariant-loop-end
invariant-loop-end l =
    (l.end ≤ length l.numbers)
    × AreFound (bounds_of (patterns_view l.system)) (renamed (place_in l.variables)) (picked (sides_list l.constraints) l.numbers) l.numbers l.end (findings_view l.findings)

abbrev pub decreases-loop-end : goal.decreases-loop-end
decreases-loop-end l = length l.numbers - l.end
