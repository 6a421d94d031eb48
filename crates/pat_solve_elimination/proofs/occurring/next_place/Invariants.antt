use Rattle.std.proofs.Common.{◌≡◌, ◌≤◌, ◌<◌, ℕ, length}
use Rattle.std.specs.Prelude.{get_or}
use Rattle.pat_patterns.specs.Views.{pattern_view}
use Rattle.pat_patterns.specs.postfix_form.Postfix.{nodes}
use Rattle.pat_patterns.specs.postfix_form.Views.{pointed}
use Rattle.pat_solve_bounded.specs.Variables.{has_var, any_has}
use Rattle.pat_solve_elimination.proofs.occurring.next_place.Given as goal

abbrev pub invariant-loop-part : goal.invariant-loop-part
invariant-loop-part l =
    (l.from ≤ l.place)
    × (l.place ≤ length l.variables)
    × ((j : ℕ) → l.from ≤ j → j < l.place → has_var (get_or l.variables j 0) (pattern_view l.p) ≡ any_has (get_or l.variables j 0) (pointed l.waiting))

abbrev pub decreases-loop-part : goal.decreases-loop-part
decreases-loop-part l = nodes (pointed l.waiting)
