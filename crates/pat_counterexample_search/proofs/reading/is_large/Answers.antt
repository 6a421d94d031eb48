use Rattle.std.proofs.Common.{arith}
use Rattle.pat_counterexample_search.proofs.Search.{none_larger}
use Rattle.pat_counterexample_search.proofs.reading.is_large.Goals as goal

pub entry-requires-clause-number : goal.entry-requires-clause-number
entry-requires-clause-number c = let points = c.requires.board.points in let l = c.in-Some.ensures.some.missing.0 in omega arith

pub returns-in-None : goal.returns-in-None
returns-in-None c = λ no. none_larger c.args.board.now c.args.entries.now c.args.left c.args.right c.in-None.ensures.none
