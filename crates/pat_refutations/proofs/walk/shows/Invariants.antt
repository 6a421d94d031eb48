use Rattle.std.proofs.Common.{◌≡◌, ◌↔◌, Some}
use Rattle.pat_bags.specs.Views.{word_of}
use Rattle.pat_patterns.specs.Views.{pattern_view, patterns_view}
use Rattle.pat_inclusion_spec.specs.bounds.Trees.{bounds_of, tree_word}
use Rattle.pat_witnesses.specs.Views.{bound_view}
use Rattle.pat_refutations.specs.Tasks.{Done, weights}
use Rattle.pat_refutations.specs.Views.{tasks_view}
use Rattle.pat_refutations.proofs.walk.shows.Given as goal

abbrev pub invariant-loop-task : goal.invariant-loop-task
invariant-loop-task l =
    Done (bounds_of (patterns_view l.system)) (tasks_view l.tasks) l.took (word_of l.left)
    ↔ (tree_word (bounds_of (patterns_view l.system)) (bound_view l.tree) (pattern_view l.p) ≡ Some (word_of l.word))

abbrev pub decreases-loop-task : goal.decreases-loop-task
decreases-loop-task l = weights (tasks_view l.tasks)
