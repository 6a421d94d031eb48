use Rattle.std.proofs.Common.{◌≡◌, [], ◌∷◌}
use Rattle.pat_patterns.specs.Views.{pattern_view}
use Rattle.pat_solve_spec.specs.Assignments.{derivative}
use Rattle.pat_solve_bounded.specs.Limits.{within}
use Rattle.pat_solve_bounded.specs.Views.{parts_view}
use Rattle.pat_solve_bounded.specs.replacing.Deriving.{outcome, work}
use Rattle.pat_solve_bounded.proofs.replacing.derivatives.derivative_by_tasks.Given as goal

abbrev pub invariant-loop-task : goal.invariant-loop-task
invariant-loop-task l =
    outcome l.variable l.tasks (parts_view l.done) ≡ within (derivative l.variable (pattern_view l.p)) ∷ []

abbrev pub decreases-loop-task : goal.decreases-loop-task
decreases-loop-task l = work l.tasks
