use Rattle.std.proofs.Common.{List, Some, ap, sym, ◌∙◌, subst}
use Rattle.pat_reduce.specs.declared.history.Entry.{Entry}
use Rattle.pat_machine.specs.declared.job.Named.{Named}
use Rattle.pat_turn.specs.Shown.{GoesOn}
use Rattle.pat_workers.specs.turns.Holds.{worker_of, IsHold}
use Rattle.pat_board.specs.Advances.{AdvanceGives}
use Rattle.pat_board.specs.Advancing.{Advances}
use Rattle.pat_board.proofs.Seats.{found_name}
use Rattle.pat_board.proofs.Seen.{named_on, log_on, advance_gives}
use Rattle.pat_board.proofs.board.Board.advance.Goals as goal

pub put_back-requires-clause-name : goal.put_back-requires-clause-name
put_back-requires-clause-name g c =
    ap (λ p. p.name) c.hold-machine.ensures.pass
    ∙ c.hold-machine.ensures.name
    ∙ ap (λ n. Some n) (sym (named_on c.hold-machine.result c.advance-result.new.machine c.number-number.result c.args.thread c.advance-result.result c.advance-result.ensures))

pub put_back-requires-clause-log : goal.put_back-requires-clause-log
put_back-requires-clause-log g c =
    let worker = c.number-number.ensures ∙ sym (ap (λ p. p.number) c.hold-machine.ensures.pass) in
    subst (λ (seen : List Entry). GoesOn worker_of c.hold-machine.new.pass.number seen c.advance-result.new.machine.history) (sym (ap (λ p. p.seen) c.hold-machine.ensures.pass))
    (subst (λ w. GoesOn worker_of w c.hold-machine.result.history c.advance-result.new.machine.history) worker
    (log_on c.hold-machine.result c.advance-result.new.machine c.number-number.result c.args.thread c.advance-result.result c.advance-result.ensures))

pub returns-clause-advance : goal.returns-clause-advance
returns-clause-advance g c =
    let found = c.hold-machine.result in
    let left = c.advance-result.new.machine in
    let seat = c.args.seat.now in
    let seen = c.put_back.new.pass.seen in
    let hold : IsHold seat seen found left = record { facts = c.history-history.ensures.facts; named = c.hold-machine.ensures.name; prefix = c.hold-machine.ensures.seen; own = c.hold-machine.ensures.own; saw = ap (λ p. p.seen) c.put_back.ensures } in
    let did : Advances found seat.number c.args.thread c.advance-result.result left = subst (λ w. Advances found w c.args.thread c.advance-result.result left) c.number-number.ensures c.advance-result.ensures in
    subst (λ (n : Named). AdvanceGives n seat.number c.args.thread seat.seen c.advance-result.result seen)
    (named_on found left seat.number c.args.thread c.advance-result.result did ∙ found_name c.args.self.now seat found.named c.requires c.hold-machine.ensures.name)
    (advance_gives seat seen found left hold c.args.thread c.advance-result.result did)
