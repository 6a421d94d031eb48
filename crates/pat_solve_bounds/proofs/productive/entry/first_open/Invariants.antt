use Rattle.std.proofs.Common.{ℕ, ◌<◌}
use Rattle.pat_solve_bounds.specs.productive.Found.{IsOpen}
use Rattle.pat_solve_bounds.proofs.productive.entry.first_open.Given as goal

abbrev pub invariant-loop-place : goal.invariant-loop-place
invariant-loop-place l = (j : ℕ) → j < l.place → IsOpen l.vars l.flags j → ⊥
