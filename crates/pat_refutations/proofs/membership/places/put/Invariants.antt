use Rattle.std.proofs.Common.{◌≡◌, ◌<◌, length}
use Rattle.pat_refutations.proofs.membership.places.put.Given as goal

abbrev pub invariant-loop : goal.invariant-loop
invariant-loop l = (l.slot < l.count) × (length l.slots ≡ l.count)
