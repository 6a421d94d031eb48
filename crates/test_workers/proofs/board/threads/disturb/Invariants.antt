use Rattle.std.proofs.Common.{◌≡◌}
use Rattle.test_workers.proofs.board.threads.disturb.Given as goal

-- the seat has seen more
abbrev pub invariant-loop : goal.invariant-loop
invariant-loop g l = l.seat ≡ record l.initial.seat { seen = l.seat.seen }
