use Rattle.std.proofs.Common.{◌≡◌, ◌<◌, ◌≤◌, ◌-◌, true, false, length, get_or}
use Rattle.pat_grid_sums.specs.Sets.{Puts, AnyBefore}
use Rattle.pat_grid_sums.specs.Systems.{IsHeldAt}
use Rattle.pat_grid_sums.proofs.steps.put_held.Given as goal

abbrev pub invariant-loop-number : goal.invariant-loop-number
invariant-loop-number l =
    (l.number ≤ length l.held)
    × (l.number < length l.held → get_or l.held l.number false ≡ true)
    × Puts (AnyBefore (IsHeldAt l.width l.held) l.number) l.initial.words l.words

abbrev pub decreases-loop-number : goal.decreases-loop-number
decreases-loop-number l = length l.held - l.number
