use Rattle.pat_examples.proofs.SafePrograms.{one_message_safe, future_safe, pump_safe, delegation_safe, swap_safe, crossed_safe, turned_safe}
use Rattle.pat_examples.proofs.safety.safe_programs.Goals as goal

pub returns : goal.returns
returns c = record { one_message = one_message_safe; future = future_safe; pump = pump_safe; delegation = delegation_safe; swap = swap_safe; crossed = crossed_safe; turned = turned_safe }
