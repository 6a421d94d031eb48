use Rattle.std.proofs.Common.{◌≡◌, ℕ, ◌<◌}
use Rattle.pat_bags.specs.Views.{word_of}
use Rattle.pat_cover_certificates.proofs.coefficients.single.quotient.Given as goal

abbrev pub invariant-loop-t : goal.invariant-loop-t
invariant-loop-t l = (s : ℕ) → s < l.t → word_of l.period s ≡ 0
