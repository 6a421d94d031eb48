use Rattle.std.proofs.Common.{◌≡◌, length, map, replicate, drop}
use Rattle.pat_words_spec.specs.Patterns.{Zero}
use Rattle.pat_patterns.specs.Views.{patterns_view}
use Rattle.pat_solve_bounds.specs.lower_bounds.Sides.{sides_list}
use Rattle.pat_solve_bounds.specs.renumbered.Renaming.{place_in}
use Rattle.pat_solve_bounds.specs.renumbered.Systems.{renamed_side, all_added, picked}
use Rattle.pat_solve_bounds.proofs.renumbered.systems.system_of.Given as goal

abbrev pub invariant-loop-number : goal.invariant-loop-number
invariant-loop-number l =
    (length l.system ≡ length l.variables)
    × (all_added (map (renamed_side (place_in l.variables)) (picked (sides_list l.constraints) (drop l.number-index l.numbers))) l.variables (patterns_view l.system)
    ≡ all_added (map (renamed_side (place_in l.variables)) (picked (sides_list l.constraints) l.numbers)) l.variables (replicate (length l.variables) Zero))
