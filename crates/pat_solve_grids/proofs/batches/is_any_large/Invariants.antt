use Rattle.std.proofs.Common.{ℕ, ◌<◌, None}
use Rattle.std.specs.Prelude.{get_or}
use Rattle.pat_solve_grids.specs.Limits.{IsTold}
use Rattle.pat_solve_grids.proofs.batches.is_any_large.Given as goal

abbrev pub invariant-loop-side : goal.invariant-loop-side
invariant-loop-side l = (j : ℕ) → j < l.side-index → IsTold l.board l.entries (get_or l.sides j None)
