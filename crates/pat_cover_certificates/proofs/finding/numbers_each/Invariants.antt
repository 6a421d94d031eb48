use Rattle.std.proofs.Common.{drop}
use Rattle.pat_inclusion_spec.specs.Counts.{most_tags}
use Rattle.pat_linear.specs.Views.{words_of}
use Rattle.pat_cover_certificates.proofs.FirstCovers.{EachSoFar}
use Rattle.pat_cover_certificates.proofs.finding.numbers_each.Given as goal

abbrev pub invariant-loop-word : goal.invariant-loop-word
invariant-loop-word l = EachSoFar most_tags (words_of l.periods) l.all (drop l.word-index l.words) l.words
