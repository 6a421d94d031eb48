use Rattle.std.proofs.Common.{ℕ, ap, sym, subst}
use Rattle.pat_workers.specs.Receipts.{AreReceiptsOf}
use Rattle.pat_workers.proofs.Holding.{after_taking}
use Rattle.pat_workers.proofs.working.take.Goals as goal

pub returns-clause-receipts : goal.returns-clause-receipts
returns-clause-receipts g c =
    let pass = c.args.worker.now.pass in
    let now = c.take_in_turn.new.pass.seen in
    let told = c.take_in_turn.ensures.taken in
    subst (λ (n : ℕ). AreReceiptsOf n now c.args.worker.now.receipts.items) (sym (ap (λ p. p.number) c.take_in_turn.ensures.pass))
    (after_taking pass now told.0 told.1 c.args.worker.now.receipts.items told.2 c.requires.receipts c.take_in_turn.result told.3)
