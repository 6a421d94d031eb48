use Rattle.std.proofs.Common.{◌≡◌, ◌++◌, drop}
use Rattle.pat_history.specs.run_reports.RunText.{numbers_text}
use Rattle.pat_history.proofs.run_reports.standing.push_threads.Given as goal

-- what is written, and the numbers that are left, are the whole text
abbrev pub invariant-loop-thread : goal.invariant-loop-thread
invariant-loop-thread l = l.text.items ++ numbers_text (drop l.thread-index l.threads) ≡ l.fn.text.items ++ numbers_text l.threads
