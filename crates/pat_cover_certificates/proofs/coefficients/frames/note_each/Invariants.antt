use Rattle.std.proofs.Common.{◌≡◌, ℕ, List, length, drop, Some}
use Rattle.std.specs.Prelude.{slice_get}
use Rattle.pat_words_spec.specs.Words.{Word, plus}
use Rattle.pat_bags.specs.Views.{word_of}
use Rattle.pat_inclusion_spec.specs.Counts.{scaled}
use Rattle.pat_cover_certificates.specs.coefficients.Numbers.{NoNumbers}
use Rattle.pat_cover_certificates.specs.coefficients.Frames.{CameToNothing}
use Rattle.pat_cover_certificates.proofs.coefficients.frames.note_each.Given as goal

abbrev pub invariant-loop-number : goal.invariant-loop-number
invariant-loop-number l = record {
  whole : plus (word_of l.left) (scaled l.number (word_of l.period)) ≡ word_of l.frame.before;
  came : (n : ℕ) (ps : List Word) → slice_get ps l.place ≡ Some (word_of l.period) → CameToNothing n ps l.initial.failed → NoNumbers n (drop l.place ps) (word_of l.frame.before) → CameToNothing n ps l.failed;
  room : length l.failed ≡ length l.initial.failed;
}

abbrev pub decreases-loop-number : goal.decreases-loop-number
decreases-loop-number l = l.number
