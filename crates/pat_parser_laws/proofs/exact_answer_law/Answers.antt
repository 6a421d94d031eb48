use Rattle.pat_parser_laws.proofs.Exact.{exact_answer}
use Rattle.pat_parser_laws.proofs.exact_answer_law.Goals as goal

pub returns : goal.returns
returns c = exact_answer
