use Rattle.pat_bags.specs.Views.{word_of}
use Rattle.pat_patterns.specs.Views.{pattern_view, patterns_view}
use Rattle.pat_witnesses.specs.Views.{bound_view}
use Rattle.pat_refutations.specs.Views.{tasks_view}
use Rattle.pat_refutations.proofs.Walks.{walk_does, take_does}
use Rattle.pat_refutations.proofs.walk.do_task.Goals as goal

pub returns-in-Walk : goal.returns-in-Walk
returns-in-Walk c =
    rw c.in-Walk.is (walk_does (patterns_view c.args.system.now) (bound_view c.in-Walk.tree.now) (pattern_view c.in-Walk.p.now) c.open.result (tasks_view c.args.tasks.now) _ c.args.took.now (word_of c.args.left.now) c.open.ensures)

pub returns-in-Take : goal.returns-in-Take
returns-in-Take c =
    rw c.in-Take.is (take_does (patterns_view c.args.system.now) c.in-Take.tag c.take_message.result (tasks_view c.args.tasks.now) c.args.took.now c.take_message.new.took (word_of c.args.left.now) (word_of c.take_message.new.left) c.take_message.ensures)
