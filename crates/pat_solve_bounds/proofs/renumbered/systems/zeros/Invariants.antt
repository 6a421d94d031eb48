use Rattle.std.proofs.Common.{◌≡◌, replicate}
use Rattle.pat_words_spec.specs.Patterns.{Zero}
use Rattle.pat_patterns.specs.Views.{patterns_view}
use Rattle.pat_solve_bounds.proofs.renumbered.systems.zeros.Given as goal

abbrev pub invariant-loop : goal.invariant-loop
invariant-loop l = patterns_view l.system ≡ replicate l.counter Zero
