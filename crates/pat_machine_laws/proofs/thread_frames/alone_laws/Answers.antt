use Rattle.pat_machine_laws.proofs.Steps.{steps_alone}
use Rattle.pat_machine_laws.proofs.thread_frames.alone_laws.Goals as goal

pub returns : goal.returns
returns c = steps_alone
