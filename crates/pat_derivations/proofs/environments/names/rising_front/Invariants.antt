use Rattle.pat_derivations.proofs.Rising.{Rises}
use Rattle.pat_derivations.proofs.environments.names.rising_front.Given as goal

abbrev pub invariant-loop-place : goal.invariant-loop-place
invariant-loop-place l = Rises l.names l.place l.least
