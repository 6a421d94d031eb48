use Rattle.std.proofs.Common.{◌≡◌, ◌≤◌, length}
use Rattle.pat_bags.specs.Views.{word_of}
use Rattle.pat_inclusion_spec.specs.Counts.{most_tags}
use Rattle.pat_linear.specs.Views.{words_of}
use Rattle.pat_cover_certificates.specs.coefficients.Frames.{left_of, Stands, CameToNothing, lists_left}
use Rattle.pat_cover_certificates.proofs.coefficients.numbers.search_all.Given as goal

abbrev pub invariant-loop-left : goal.invariant-loop-left
invariant-loop-left l = record {
  stands : Stands most_tags (words_of l.periods) (word_of l.word) l.frames;
  few : length l.frames ≤ length l.periods;
  failed : CameToNothing most_tags (words_of l.periods) l.failed;
  left : word_of l.left ≡ left_of (word_of l.word) l.frames;
}

abbrev pub decreases-loop-left : goal.decreases-loop-left
decreases-loop-left l = lists_left (words_of l.periods) l.frames
