use Rattle.std.proofs.Common.{ℕ, ◌-◌, List, length}
use Rattle.pat_words_spec.specs.Words.{Word}
use Rattle.pat_cover_certificates.specs.coefficients.Frames.{CameToNothing}
use Rattle.pat_cover_certificates.proofs.coefficients.failed.add_slots.Given as goal

abbrev pub invariant-loop-failed : goal.invariant-loop-failed
invariant-loop-failed l = (n : ℕ) (ps : List Word) → CameToNothing n ps l.initial.failed → CameToNothing n ps l.failed

abbrev pub decreases-loop-failed : goal.decreases-loop-failed
decreases-loop-failed l = l.slots - length l.failed
