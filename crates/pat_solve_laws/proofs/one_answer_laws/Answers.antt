use Rattle.pat_solve_laws.proofs.OneAnswer.{one_answer}
use Rattle.pat_solve_laws.proofs.one_answer_laws.Goals as goal

pub returns : goal.returns
returns c = record { one = one_answer }
