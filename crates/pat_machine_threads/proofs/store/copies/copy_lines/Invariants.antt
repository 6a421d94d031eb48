use Rattle.std.proofs.Common.{◌≡◌, ◌++◌, drop}
use Rattle.pat_machine_threads.proofs.store.copies.copy_lines.Given as goal

-- the copies so far, and what is left
abbrev pub invariant-loop-line : goal.invariant-loop-line
invariant-loop-line l = l.own ++ drop l.line-index l.lines ≡ l.lines
