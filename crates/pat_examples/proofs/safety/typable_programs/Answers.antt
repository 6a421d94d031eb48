use Rattle.pat_examples.proofs.SafePrograms.{one_message_typable, crossed_typable, turned_typable}
use Rattle.pat_examples.proofs.safety.typable_programs.Goals as goal

pub returns : goal.returns
returns c = record { one_message = one_message_typable; crossed = crossed_typable; turned = turned_typable }
