use Rattle.pat_board.specs.Seats.{AreSeatsOf}
use Rattle.test_workers.proofs.board.threads.take_turns.Given as goal

-- they are all seats still
abbrev pub invariant-loop : goal.invariant-loop
invariant-loop g l = AreSeatsOf l.board l.seats.items
