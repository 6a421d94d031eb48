use Rattle.pat_tree.specs.Views.{tree_view}
use Rattle.pat_resolver.proofs.Wholes.{is_resolved}
use Rattle.pat_resolver.proofs.whole.resolve.Goals as goal

pub returns-clause-is_resolved : goal.returns-clause-is_resolved
returns-clause-is_resolved c = λ written.
    is_resolved c.args.end (tree_view c.args.tree.now) c.whole_tree.result written c.whole_tree.ensures.found c.whole_tree.ensures.program c.whole_tree.ensures.places
