use Rattle.std.proofs.Common.{◌≡◌, [], ◌∷◌}
use Rattle.pat_words_spec.specs.Patterns.{subst_of}
use Rattle.pat_patterns.specs.Views.{pattern_view}
use Rattle.pat_solve_bounded.specs.Limits.{within}
use Rattle.pat_solve_bounded.specs.Views.{parts_view}
use Rattle.pat_solve_bounded.specs.replacing.Replacing.{replaced_by, outcome, work}
use Rattle.pat_solve_bounded.proofs.replacing.replacing.replaced_by_tasks.Given as goal

abbrev pub invariant-loop-task : goal.invariant-loop-task
invariant-loop-task l =
    outcome (replaced_by l.by) l.tasks (parts_view l.done) ≡ within (subst_of (replaced_by l.by) (pattern_view l.p)) ∷ []

abbrev pub decreases-loop-task : goal.decreases-loop-task
decreases-loop-task l = work l.tasks
