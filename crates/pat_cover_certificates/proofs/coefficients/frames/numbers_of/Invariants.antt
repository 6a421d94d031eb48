use Rattle.std.proofs.Common.{◌≡◌, ◌++◌, drop}
use Rattle.pat_cover_certificates.specs.coefficients.Frames.{numbers_of}
use Rattle.pat_cover_certificates.proofs.coefficients.frames.numbers_of.Given as goal

abbrev pub invariant-loop-frame : goal.invariant-loop-frame
invariant-loop-frame l = l.numbers ++ numbers_of (drop l.frame-index l.frames) ≡ numbers_of l.frames
