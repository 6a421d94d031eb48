use Rattle.pat_solve_grids.proofs.Sharing.{limited_board}
use Rattle.pat_solve_grids.proofs.batches.settled_sizes.Goals as goal

pub least_sizes-requires : goal.least_sizes-requires
least_sizes-requires c = limited_board c.args.board.now c.loop-entries.limit c.requires c.loop-entries.invariant

pub is_any_large-requires-clause-board : goal.is_any_large-requires-clause-board
is_any_large-requires-clause-board c = limited_board c.args.board.now c.loop-entries.limit c.requires c.loop-entries.invariant

pub returns-then-limit-eq-MOST_TREE_NODES-clause-settled : goal.returns-then-limit-eq-MOST_TREE_NODES-clause-settled
returns-then-limit-eq-MOST_TREE_NODES-clause-settled c = λ j l no. absurd (no c.if-limit-eq-MOST_TREE_NODES.true)

pub returns-then-not-is_any_large-clause-settled : goal.returns-then-not-is_any_large-clause-settled
returns-then-not-is_any_large-clause-settled c = λ j l no. c.is_any_large.ensures c.if-not-is_any_large.true j l
