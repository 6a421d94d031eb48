use Rattle.std.proofs.Common.{sym, subst}
use Rattle.pat_machine.specs.Shown.{Shown}
use Rattle.pat_turn.specs.Shown.{AreAll, IsOfAll}
use Rattle.pat_workers.specs.turns.Holds.{worker_of}
use Rattle.pat_board.proofs.Seats.{seats_are_all}
use Rattle.pat_board.proofs.Seen.{back_none_out}
use Rattle.pat_board.proofs.board.Board.close.Goals as goal

pub close-machine-requires : goal.close-machine-requires
close-machine-requires c = subst (λ t. AreAll t c.args.seats.items) (sym c.self.view_is) (seats_are_all c.args.self c.args.seats.items c.requires)

pub returns-clause-history : goal.returns-clause-history
returns-clause-history c = subst (λ (m : Shown). IsOfAll worker_of c.args.seats.items m.history) (sym c.give_back_all.ensures) c.close-machine.ensures.log

pub returns-clause-back : goal.returns-clause-back
returns-clause-back c = back_none_out c.close-machine.result c.give_back_all.new.self c.give_back_all.ensures
