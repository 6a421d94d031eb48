use Rattle.std.proofs.Common.{take}
use Rattle.pat_grid_certificates.proofs.Marking.{Marked}
use Rattle.pat_grid_certificates.proofs.cutting.marked.Given as goal

abbrev pub invariant-loop-word : goal.invariant-loop-word
invariant-loop-word l = Marked l.k l.tags l.held (take l.word-index l.words)
