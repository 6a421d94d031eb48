use Rattle.pat_parser_laws.proofs.Names.{tree_named}
use Rattle.pat_parser_laws.proofs.names_law.Goals as goal

pub returns : goal.returns
returns c = tree_named
