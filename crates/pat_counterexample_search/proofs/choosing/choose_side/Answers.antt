use Rattle.std.proofs.Common.{arith}
use Rattle.pat_counterexample_search.proofs.Steps.{right_chosen}
use Rattle.pat_counterexample_search.proofs.choosing.choose_side.Goals as goal

pub returns : goal.returns
returns c =
    let size = c.entry-size.ensures in
    let one = c.entry-one.ensures in
    right_chosen c.args.board.now c.requires.board c.args.entries.now c.args.place c.requires.step c.args.left c.args.right c.requires.symbol
    (λ e. absurd (c.if-one-size.false (omega arith)))
