use Rattle.std.proofs.Common.{◌≡◌, ◌++◌, ◌+◌, ◌-◌}
use Rattle.pat_load.specs.LoadText.{each_from, worker_text}
use Rattle.pat_load.proofs.program.push_workers.Given as goal

-- what is written, and the texts that are left, are all
abbrev pub invariant-loop-number : goal.invariant-loop-number
invariant-loop-number l = l.text.items ++ each_from worker_text (l.number + 1) (l.workers - l.number) ≡ l.fn.text.items ++ each_from worker_text 1 l.workers
