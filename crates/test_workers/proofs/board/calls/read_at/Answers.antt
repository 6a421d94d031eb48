use Rattle.test_workers.proofs.Seats.{seat_at, seat_on}
use Rattle.test_workers.proofs.board.calls.read_at.Goals as goal

pub read-requires : goal.read-requires
read-requires g c = seat_at c.args.board.now c.args.seats.now.items c.args.at c.index_mut.result.now c.requires.seats c.requires.at c.index_mut.ensures.value

pub returns : goal.returns
returns g c =
    seat_on c.args.board.now c.args.seats.now.items c.args.at c.index_mut.result.now c.read.new.seat c.requires.seats c.requires.at c.index_mut.ensures.value c.read.ensures
