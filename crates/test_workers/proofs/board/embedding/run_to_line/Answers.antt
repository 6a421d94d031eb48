use Rattle.std.proofs.Common.{◌≡◌, ◌∙◌, ◌<◌, length, arith}
use Rattle.test_workers.proofs.Seats.{seat_at, seat_on}
use Rattle.test_workers.proofs.board.embedding.run_to_line.Goals as goal

pub take_rounds-requires : goal.take_rounds-requires
take_rounds-requires g c =
    let one : length c.in_ok-board.seats.items ≡ 1 = c.in_ok-board.ensures.seats.count ∙ c.in_ok-board.ensures.board.1 in
    let low : 0 < length c.in_ok-board.seats.items = omega (arith, one) in
    seat_at c.in_ok-board.board c.in_ok-board.seats.items 0 c.index_mut.result.now c.in_ok-board.ensures.seats low c.index_mut.ensures.value

pub close-requires : goal.close-requires
close-requires g c =
    let one : length c.in_ok-board.seats.items ≡ 1 = c.in_ok-board.ensures.seats.count ∙ c.in_ok-board.ensures.board.1 in
    let low : 0 < length c.in_ok-board.seats.items = omega (arith, one) in
    seat_on c.in_ok-board.board c.in_ok-board.seats.items 0 c.index_mut.result.now c.take_rounds.new.seat c.in_ok-board.ensures.seats low c.index_mut.ensures.value c.take_rounds.ensures
