use Rattle.std.proofs.Common.{◌≡◌, drop}
use Rattle.pat_linear.specs.Views.{words_of}
use Rattle.pat_cover_certificates.specs.coefficients.Numbers.{occurs}
use Rattle.pat_cover_certificates.proofs.coefficients.tags.occurs.Given as goal

abbrev pub invariant-loop-period : goal.invariant-loop-period
invariant-loop-period l = occurs l.tag (words_of (drop l.period-index l.periods)) ≡ occurs l.tag (words_of l.periods)
