use Rattle.std.proofs.Common.{◌≡◌}
use Rattle.pat_turn.proofs.turn.take.Given as goal

-- a look at a ticket of another changes nothing
abbrev pub invariant-loop : goal.invariant-loop
invariant-loop g l = (l.seat.table_id ≡ l.initial.seat.table_id) × (l.seat.me ≡ l.initial.seat.me)
