use Rattle.pat_input_split.proofs.ProgramWithTextOnce.{one_program}
use Rattle.pat_input_split.proofs.program_with_text.laws.program_law.Goals as goal

pub returns : goal.returns
returns c = λ mark bytes. one_program mark bytes (c.split_law.ensures mark bytes) c.verdict_law.ensures
