use Rattle.std.proofs.Common.{◌≡◌}
use Rattle.pat_workers.specs.Workers.{HasReceipts}
use Rattle.pat_workers.proofs.working.work.Given as goal

-- the pass has seen more, and the receipts are of its entries
abbrev pub invariant-loop : goal.invariant-loop
invariant-loop g l = (l.worker.pass ≡ record l.initial.worker.pass { seen = l.worker.pass.seen }) × HasReceipts l.worker
