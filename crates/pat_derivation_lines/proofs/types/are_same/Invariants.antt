use Rattle.std.proofs.Common.{◌≡◌, ◌-◌, length, take}
use Rattle.pat_derivation_lines.proofs.types.are_same.Given as goal

abbrev pub decreases-loop-place : goal.decreases-loop-place
decreases-loop-place l = length l.first - l.place

-- the texts are the same up to the place
abbrev pub invariant-loop-place : goal.invariant-loop-place
invariant-loop-place l = take l.place l.first ≡ take l.place l.second
