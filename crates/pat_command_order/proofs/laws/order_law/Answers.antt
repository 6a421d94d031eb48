use Rattle.pat_command_order.proofs.Once.{one_answer}
use Rattle.pat_command_order.proofs.laws.order_law.Goals as goal

pub returns : goal.returns
returns c = λ bytes. one_answer bytes (c.history_law.ensures bytes)
