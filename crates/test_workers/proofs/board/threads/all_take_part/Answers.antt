use Rattle.std.proofs.Common.{◌≡◌, ℕ, ◌<◌, List, length, get_or, Result, Ok, Err}
use Rattle.std.specs.Prelude.{IfOk}
use Rattle.pat_reduce.specs.declared.history.Entry.{Entry}
use Rattle.pat_machine.specs.declared.job.Named.{Named}
use Rattle.pat_turn.specs.Shown.{ShownPass, ShownTurn}
use Rattle.pat_board.specs.Seats.{AreSeatsOf}
use Rattle.pat_board.proofs.Seats.{seats_each, seats_on}
use Rattle.test_workers.proofs.board.threads.all_take_part.Goals as goal

kept : {V E : Type 0} (items : V → List (ShownPass Named Entry)) (board : ShownTurn Named) (ps : List (ShownPass Named Entry)) (r : Result V E) → AreSeatsOf board ps
    → IfOk r (λ v. length (items v) ≡ length ps)
    → IfOk r (λ v. (i : ℕ) (s : ShownPass Named Entry) → i < length ps → get_or (items v) i s ≡ record (get_or ps i s) { seen = (get_or (items v) i s).seen })
    → IfOk r (λ v. AreSeatsOf board (items v))
kept items board ps (Ok v) all len same = seats_on board ps (items v) all len same
kept items board ps (Err e) all len same = tt

pub take_part_beside-requires-after_bounds : goal.take_part_beside-requires-after_bounds
take_part_beside-requires-after_bounds g c κs within = seats_each c.args.board.now c.args.seats.items c.requires

pub returns : goal.returns
returns g c = kept (λ v. v.items) c.args.board.now c.args.seats.items c.take_part_beside.result c.requires c.take_part_beside.ensures.len c.take_part_beside.ensures.each
