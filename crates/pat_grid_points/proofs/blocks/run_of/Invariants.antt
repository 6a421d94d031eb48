use Rattle.std.proofs.Common.{◌≡◌, ◌<◌, ◌≤◌, ℕ, get_or}
use Rattle.pat_grid_points.proofs.blocks.run_of.Given as goal

abbrev pub invariant-loop-next : goal.invariant-loop-next
invariant-loop-next g l = (i : ℕ) (d : _) → l.place ≤ i → i < l.next → get_or l.blocks i d ≡ get_or l.blocks l.place d
