use Rattle.pat_command_resume.proofs.Once.{one_answer}
use Rattle.pat_command_resume.proofs.laws.resume_law.Goals as goal

pub returns : goal.returns
returns c = λ bytes. one_answer bytes (c.checkpoint_input_law.ensures bytes)
