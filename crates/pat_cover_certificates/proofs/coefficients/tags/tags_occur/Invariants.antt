use Rattle.std.proofs.Common.{◌≡◌, true}
use Rattle.pat_bags.specs.Views.{word_of}
use Rattle.pat_linear.specs.Views.{words_of}
use Rattle.pat_cover_certificates.specs.coefficients.Numbers.{tags_occur}
use Rattle.pat_cover_certificates.proofs.coefficients.tags.tags_occur.Given as goal

abbrev pub invariant-loop-t : goal.invariant-loop-t
invariant-loop-t l = tags_occur l.t (words_of l.periods) (word_of l.word) ≡ true
