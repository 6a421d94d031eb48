use Rattle.pat_cover_certificates.proofs.Indexing.{OutsideSoFar}
use Rattle.pat_cover_certificates.proofs.finding.entry_among.Given as goal

abbrev pub invariant-loop-place : goal.invariant-loop-place
invariant-loop-place l = OutsideSoFar l.set l.right l.others l.place-index
