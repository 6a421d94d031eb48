use Rattle.std.proofs.Common.{ℕ, List, ap, sym, subst}
use Rattle.pat_machine.specs.declared.job.Receipt.{Receipt}
use Rattle.pat_workers.specs.Receipts.{AreReceiptsOf}
use Rattle.pat_workers.proofs.Holding.{after_giving_back}
use Rattle.pat_workers.proofs.serving.serve.Goals as goal

pub returns-in-Err-clause-receipts : goal.returns-in-Err-clause-receipts
returns-in-Err-clause-receipts g c =
    let pass = c.args.worker.now.pass in
    let now = c.give_back_in_turn.new.pass.seen in
    let told = c.give_back_in_turn.ensures.back in
    let same = after_giving_back pass now told.0 told.1 c.args.worker.now.receipts.items told.2 c.requires.receipts c.args.task.job told.3 in
    subst (λ (n : ℕ). AreReceiptsOf n now c.prepare.new.receipts.items) (sym (ap (λ p. p.number) c.give_back_in_turn.ensures.pass))
    (subst (λ (l : List Receipt). AreReceiptsOf pass.number now l) (sym c.prepare.ensures.receipts) same)
