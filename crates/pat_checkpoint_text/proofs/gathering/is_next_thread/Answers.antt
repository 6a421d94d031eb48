use Rattle.std.proofs.Common.{ℕ, length, ◌-◌, ap, ◌∙◌, arith}
use Rattle.std.specs.Prelude.{nat_lt}
use Rattle.pat_reduce.specs.declared.threads.state.ThreadState.{ThreadState}
use Rattle.pat_checkpoint_text.proofs.Orders.{above_last_of}
use Rattle.pat_checkpoint_text.proofs.gathering.is_next_thread.Goals as goal

pub returns-in-len1-up : goal.returns-in-len1-up
returns-in-len1-up c =
    let number = λ (e : ℕ × ThreadState). e.0 in
    ap (λ (e : ℕ × ThreadState). nat_lt e.0 c.args.number) c.last-item.is
    ∙ above_last_of number c.args.threads.now (length c.args.threads.now - 1) c.args.number c.last-item.result (omega arith)
