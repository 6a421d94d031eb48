use Rattle.pat_inclusion_spec.specs.bounds.Trees.{bounds_of}
use Rattle.pat_patterns.specs.Views.{patterns_view}
use Rattle.pat_solve_bounds.specs.lower_bounds.Sides.{sides_list}
use Rattle.pat_solve_bounds.specs.renumbered.Renaming.{place_in, renamed}
use Rattle.pat_solve_bounds.specs.renumbered.Systems.{picked}
use Rattle.pat_solve_grids.proofs.Turning.{nothing_yet}
use Rattle.pat_solve_grids.proofs.searches.search_each.Goals as goal

pub search_batch-requires-clause-found : goal.search_batch-requires-clause-found
search_batch-requires-clause-found c = nothing_yet (bounds_of (patterns_view c.args.system.now)) (renamed (place_in c.args.variables.now)) (picked (sides_list c.args.constraints.now) c.args.numbers.now) c.args.numbers.now
