use Rattle.std.proofs.Common.{ℕ, take}
use Rattle.std.specs.Int.{◌∣◌}
use Rattle.std.specs.List.{AllByRecursion}
use Rattle.pat_linear.specs.Views.{words_of}
use Rattle.pat_cover_certificates.proofs.coefficients.divisors.common_divisor.Given as goal

abbrev pub invariant-loop-period : goal.invariant-loop-period
invariant-loop-period l = (g : ℕ) → g ∣ l.divisor → AllByRecursion (λ p. g ∣ p l.tag) (take l.period-index (words_of l.periods))
