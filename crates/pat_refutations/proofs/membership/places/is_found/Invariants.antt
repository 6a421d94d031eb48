use Rattle.std.proofs.Common.{◌<◌}
use Rattle.pat_refutations.proofs.membership.places.is_found.Given as goal

abbrev pub invariant-loop : goal.invariant-loop
invariant-loop l = l.slot < l.count
