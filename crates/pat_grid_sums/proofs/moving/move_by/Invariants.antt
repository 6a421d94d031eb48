use Rattle.pat_grid_sums.specs.Sets.{Puts, AnyBefore, IsShifted}
use Rattle.pat_grid_sums.proofs.moving.move_by.Given as goal

abbrev pub invariant-loop-word : goal.invariant-loop-word
invariant-loop-word l = Puts (AnyBefore (IsShifted l.others l.mask l.by) l.word) l.initial.moved l.moved
