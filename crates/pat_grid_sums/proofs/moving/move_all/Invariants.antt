use Rattle.pat_grid_sums.specs.Sets.{Puts, AnyBefore, IsShiftedAny}
use Rattle.pat_grid_sums.proofs.moving.move_all.Given as goal

abbrev pub invariant-loop-by : goal.invariant-loop-by
invariant-loop-by l = Puts (AnyBefore (IsShiftedAny l.others l.masks) l.by) l.initial.moved l.moved
