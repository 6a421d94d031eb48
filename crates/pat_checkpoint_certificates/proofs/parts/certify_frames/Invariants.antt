use Rattle.std.proofs.Common.{take}
use Rattle.pat_checkpoint_certificates.specs.Parts.{FramesFound}
use Rattle.pat_checkpoint_certificates.proofs.parts.certify_frames.Given as goal

abbrev pub invariant-loop-place : goal.invariant-loop-place
invariant-loop-place l = FramesFound l.search (take l.place l.frames) l.certs
