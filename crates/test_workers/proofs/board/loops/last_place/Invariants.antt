use Rattle.std.proofs.Common.{◌≡◌}
use Rattle.test_workers.proofs.board.loops.last_place.Given as goal

-- the seat has seen more
abbrev pub invariant-loop-place : goal.invariant-loop-place
invariant-loop-place g l = l.seat ≡ record l.initial.seat { seen = l.seat.seen }
