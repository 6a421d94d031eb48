use Rattle.std.proofs.Common.{length, ◌-◌, ap, ◌∙◌, arith}
use Rattle.std.specs.Prelude.{nat_lt}
use Rattle.pat_reduce.specs.declared.threads.state.Message.{Message}
use Rattle.pat_checkpoint_text.proofs.Orders.{above_last_of}
use Rattle.pat_checkpoint_text.proofs.gathering.is_next_message.Goals as goal

pub returns-in-len1-up : goal.returns-in-len1-up
returns-in-len1-up c =
    let number = λ (m : Message). m.number in
    ap (λ (m : Message). nat_lt m.number c.args.number) c.last-item.is
    ∙ above_last_of number c.args.messages.now (length c.args.messages.now - 1) c.args.number c.last-item.result (omega arith)
