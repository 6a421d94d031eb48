use Rattle.std.proofs.Common.{◌≡◌, ◌++◌, ◌+◌, ◌-◌}
use Rattle.pat_load.specs.LoadText.{each_from, group_text}
use Rattle.pat_load.proofs.program.push_groups.Given as goal

-- what is written, and the texts that are left, are all
abbrev pub invariant-loop-number : goal.invariant-loop-number
invariant-loop-number l = l.text.items ++ each_from group_text (l.number + 1) (l.workers - l.number) ≡ l.fn.text.items ++ each_from group_text 1 l.workers
