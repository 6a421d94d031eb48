use Rattle.pat_board.specs.Seats.{AreSeatsOf}
use Rattle.test_workers.proofs.board.calls.goes_so.Given as goal

-- they are all seats still
abbrev pub invariant-loop-at : goal.invariant-loop-at
invariant-loop-at g l = AreSeatsOf l.board l.seats.items
