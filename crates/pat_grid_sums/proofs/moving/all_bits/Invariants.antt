use Rattle.std.proofs.Common.{◌≡◌, ℕ, ◌<◌}
use Rattle.std.specs.Int.{bit_at}
use Rattle.pat_grid_sums.specs.Sets.{In}
use Rattle.pat_grid_sums.proofs.moving.all_bits.Given as goal

abbrev pub invariant-loop-word : goal.invariant-loop-word
invariant-loop-word l = (h q : ℕ) → h < l.word → In l.words h q → bit_at l.bits q ≡ 1
