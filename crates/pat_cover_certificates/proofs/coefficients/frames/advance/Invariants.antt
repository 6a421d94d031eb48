use Rattle.std.proofs.Common.{◌≡◌, ◌++◌, ◌<◌, ◌≤◌, List, length}
use Rattle.pat_bags.specs.Views.{word_of}
use Rattle.pat_inclusion_spec.specs.Counts.{most_tags}
use Rattle.pat_linear.specs.Views.{words_of}
use Rattle.pat_cover_certificates.specs.declared.coefficients.frames.Frame.{Frame}
use Rattle.pat_cover_certificates.specs.coefficients.Numbers.{NoNumbers}
use Rattle.pat_cover_certificates.specs.coefficients.Frames.{left_of, to_come, Stands, CameToNothing}
use Rattle.pat_cover_certificates.proofs.coefficients.frames.advance.Given as goal

abbrev pub invariant-loop-frame : goal.invariant-loop-frame
invariant-loop-frame l = record {
  stands : Stands most_tags (words_of l.periods) (word_of l.word) l.frames;
  none : NoNumbers most_tags (to_come (words_of l.periods) l.frames) (left_of (word_of l.word) l.frames);
  few : length l.frames ≤ length l.periods;
  failed : CameToNothing most_tags (words_of l.periods) l.failed;
  room : 0 < length l.failed;
  front : (gone : List Frame) × (l.initial.frames ≡ l.frames ++ gone);
}

abbrev pub decreases-loop-frame : goal.decreases-loop-frame
decreases-loop-frame l = length l.frames
