use Rattle.pat_checkpoint_laws.proofs.Conversions.{lines_again, made_is_aligned, checkpoint_again}
use Rattle.pat_checkpoint_laws.proofs.Plain.{plain_is_readable}
use Rattle.pat_checkpoint_laws.proofs.text.lines_law.Goals as goal

pub returns-clause-again : goal.returns-clause-again
returns-clause-again c = checkpoint_again

pub returns-clause-made : goal.returns-clause-made
returns-clause-made c = λ x. (lines_again x, made_is_aligned x)

pub returns-clause-plain : goal.returns-clause-plain
returns-clause-plain c = plain_is_readable
