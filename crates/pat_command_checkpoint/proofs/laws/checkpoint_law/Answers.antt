use Rattle.pat_command_checkpoint.proofs.Once.{one_answer}
use Rattle.pat_command_checkpoint.proofs.laws.checkpoint_law.Goals as goal

pub returns : goal.returns
returns c = λ steps bytes. one_answer steps bytes (c.verdict_law.ensures bytes) (c.one_verdict_law.ensures bytes) c.refusal_laws.ensures.there (c.piece_law.ensures bytes)
