use Rattle.pat_tree.specs.Views.{tree_view}
use Rattle.pat_front.proofs.front.check_tree.Goals as goal

pub returns-in-Err-clause-refused : goal.returns-in-Err-clause-refused
returns-in-Err-clause-refused c = λ bytes text end.
    c.of_resolver.ensures bytes (tree_view c.args.tree.now) c.args.end text end c.in-Err.ensures.refused
