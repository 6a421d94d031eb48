use Rattle.pat_counterexample_search.proofs.Steps.{lower_chosen}
use Rattle.pat_counterexample_search.proofs.choosing.choose_lower.Goals as goal

pub returns : goal.returns
returns c =
    lower_chosen c.args.board.now c.requires.board c.args.entries.now c.args.place c.requires.step c.args.variable c.root_of.result c.requires.symbol c.root_of.ensures
