use Rattle.std.proofs.Common.{◌≡◌, ◌∷◌, Some, ap, ◌∙◌}
use Rattle.pat_bags.specs.Views.{word_of}
use Rattle.pat_patterns.specs.Views.{pattern_view, patterns_view}
use Rattle.pat_inclusion_spec.specs.bounds.Trees.{bounds_of, tree_word}
use Rattle.pat_witnesses.specs.Views.{bound_view}
use Rattle.pat_refutations.specs.Tasks.{WalkTask}
use Rattle.pat_refutations.specs.Views.{tasks_view}
use Rattle.pat_refutations.proofs.Walks.{begun_with, ended}
use Rattle.pat_refutations.proofs.walk.shows.Goals as goal

pub loop-task-init : goal.loop-task-init
loop-task-init c =
    let b = bound_view c.args.tree.now in
    let e = pattern_view c.args.p.now in
    begun_with (bounds_of (patterns_view c.args.system.now)) b e (word_of c.args.word.now) (tasks_view c.push.new.self)
    (ap tasks_view c.in_ok-push.ensures.ok ∙ ap (λ l. WalkTask b e ∷ tasks_view l) c.new-tasks.ensures)

pub returns : goal.returns
returns c =
    let lower = bounds_of (patterns_view c.args.system.now) in
    ended lower (tasks_view c.loop-task.tasks) c.loop-task.took (word_of c.loop-task.left) c.is_empty.result
    (tree_word lower (bound_view c.args.tree.now) (pattern_view c.args.p.now) ≡ Some (word_of c.args.word.now))
    (ap tasks_view c.in_default.ensures.none.0)
    c.is_empty.ensures
    c.loop-task.invariant
