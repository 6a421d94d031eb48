use Rattle.std.proofs.Common.{◌≡◌, map}
use Rattle.pat_workers.proofs.finishing.part.Given as goal

-- those that were taken apart
abbrev pub invariant-loop-worker : goal.invariant-loop-worker
invariant-loop-worker l = (l.passes.items ≡ map (λ w. w.pass) l.yielded) × (l.receipts.items ≡ map (λ w. w.receipts) l.yielded)
