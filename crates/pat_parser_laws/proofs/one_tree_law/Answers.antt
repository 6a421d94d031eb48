use Rattle.pat_parser_laws.proofs.CompleteDecl.{one_tree}
use Rattle.pat_parser_laws.proofs.one_tree_law.Goals as goal

pub returns : goal.returns
returns c = one_tree
