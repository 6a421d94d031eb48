-- Seats in a list, one of which has seen more.
use Rattle.std.proofs.Common.{◌≡◌, ℕ, zero, suc, ◌<◌, List, [], ◌∷◌, length, get_or, slice_set, refl, sym, ap, ◌∙◌, subst, arith, length-set}
use Rattle.pat_reduce.specs.declared.history.Entry.{Entry}
use Rattle.pat_machine.specs.declared.job.Named.{Named}
use Rattle.pat_turn.specs.Shown.{ShownPass, ShownTurn}
use Rattle.pat_board.specs.Seats.{IsSeatOf, AreSeatsOf}
use Rattle.pat_board.proofs.Seats.{seats_each, seats_on}

-- the one that is lent from the list is a seat of the board
pub seat_at : (board : ShownTurn Named) (ps : List (ShownPass Named Entry)) (at : ℕ) (lent : ShownPass Named Entry) → AreSeatsOf board ps → at < length ps
    → lent ≡ get_or ps at lent → IsSeatOf board lent
seat_at board ps at lent all low value = subst (IsSeatOf board) (sym value) (seats_each board ps all at lent low)

set_one : (ps : List (ShownPass Named Entry)) (at : ℕ) (d new : ShownPass Named Entry) → at < length ps → new ≡ record (get_or ps at d) { seen = new.seen }
    → (i : ℕ) (s : ShownPass Named Entry) → i < length ps → get_or (slice_set ps at new) i s ≡ record (get_or ps i s) { seen = (get_or (slice_set ps at new) i s).seen }
set_one [] at d new low is i s under = absurd (omega (arith, low))
set_one (p ∷ ps) zero d new low is zero s under = is
set_one (p ∷ ps) zero d new low is (suc i) s under = refl
set_one (p ∷ ps) (suc at) d new low is zero s under = refl
set_one (p ∷ ps) (suc at) d new low is (suc i) s under = set_one ps at d new (omega (arith, low)) is i s (omega (arith, under))

-- where it has seen more, they are all seats still
pub seat_on : (board : ShownTurn Named) (ps : List (ShownPass Named Entry)) (at : ℕ) (lent new : ShownPass Named Entry) → AreSeatsOf board ps → at < length ps
    → lent ≡ get_or ps at lent → new ≡ record lent { seen = new.seen } → AreSeatsOf board (slice_set ps at new)
seat_on board ps at lent new all low value is =
    seats_on board ps (slice_set ps at new) all (length-set ps at new)
    (set_one ps at lent new low (is ∙ ap (λ (q : ShownPass Named Entry). record q { seen = new.seen }) value))
