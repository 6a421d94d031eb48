use Rattle.pat_front.proofs.OneVerdict.{one_answer}
use Rattle.pat_front.proofs.laws.verdict_law.Goals as goal

pub returns : goal.returns
returns c = one_answer
