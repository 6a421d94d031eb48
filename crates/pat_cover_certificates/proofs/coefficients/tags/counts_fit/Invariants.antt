use Rattle.std.proofs.Common.{◌≡◌, ◌<◌, ℕ, length, get_or}
use Rattle.pat_cover_certificates.proofs.coefficients.tags.counts_fit.Given as goal
use Rattle.pat_limits.specs.Limits.{number_count}

abbrev pub invariant-loop-t : goal.invariant-loop-t
invariant-loop-t l = record {
  done : (k : ℕ) → k < l.t → get_or l.counts k 0 < number_count;
  len : length l.counts ≡ 32;
}
