use Rattle.std.proofs.Common.{◌≡◌, ℕ, ◌<◌, get_or}
use Rattle.pat_grid_sums.proofs.bits.is_same.Given as goal

abbrev pub invariant-loop-word : goal.invariant-loop-word
invariant-loop-word l = (h : ℕ) → h < l.word → get_or l.one h 0 ≡ get_or l.other h 0
