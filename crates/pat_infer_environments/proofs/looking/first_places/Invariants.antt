use Rattle.std.proofs.Common.{drop}
use Rattle.pat_infer_environments.proofs.LookUps.{BegunWith}
use Rattle.pat_infer_environments.proofs.looking.first_places.Given as goal

-- the places so far, with those of the branches that are left, are the places of all
abbrev pub invariant-loop : goal.invariant-loop
invariant-loop l = BegunWith l.branches (drop l.index l.branches) l.cursors
