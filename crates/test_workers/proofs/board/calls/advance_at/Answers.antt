use Rattle.test_workers.proofs.Seats.{seat_at, seat_on}
use Rattle.test_workers.proofs.board.calls.advance_at.Goals as goal

pub advance-requires : goal.advance-requires
advance-requires g c = seat_at c.args.board.now c.args.seats.now.items c.args.at c.index_mut.result.now c.requires.seats c.requires.at c.index_mut.ensures.value

pub returns-clause-seats : goal.returns-clause-seats
returns-clause-seats g c =
    seat_on c.args.board.now c.args.seats.now.items c.args.at c.index_mut.result.now c.advance.new.seat c.requires.seats c.requires.at c.index_mut.ensures.value c.advance.ensures
