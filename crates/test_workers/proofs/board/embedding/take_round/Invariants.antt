use Rattle.std.proofs.Common.{◌≡◌}
use Rattle.test_workers.proofs.board.embedding.take_round.Given as goal

-- the seat has seen more
abbrev pub invariant-loop-thread : goal.invariant-loop-thread
invariant-loop-thread g l = l.seat ≡ record l.initial.seat { seen = l.seat.seen }
