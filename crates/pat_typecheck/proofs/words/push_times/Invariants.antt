use Rattle.std.proofs.Common.{◌≡◌, ◌++◌}
use Rattle.pat_typecheck.specs.Words.{times_words}
use Rattle.pat_typecheck.proofs.words.push_times.Given as goal

abbrev pub invariant-loop-left : goal.invariant-loop-left
invariant-loop-left l = l.text.items ++ times_words l.left l.name ≡ l.fn.text.items ++ times_words l.times l.name

abbrev pub decreases-loop-left : goal.decreases-loop-left
decreases-loop-left l = l.left
