use Rattle.pat_grid_sums.specs.Sets.{Puts, AnyBefore, IsJoined}
use Rattle.pat_grid_sums.proofs.rows.add_block.Given as goal

abbrev pub invariant-loop-place : goal.invariant-loop-place
invariant-loop-place l =
    Puts (AnyBefore (IsJoined l.words l.from l.base l.row) l.place) l.initial.sums l.sums
