use Rattle.std.proofs.Common.{rules}
use Rattle.pat_tree.specs.declared.term.Form.TheViews.{the_lemmas}
use Rattle.pat_tree.proofs.Rows.{rows_are}
use Rattle.pat_parser.proofs.ends.ends.guard_term.Goals as goal

pub returns : goal.returns
returns c = search (rules, the_lemmas, rows_are)
