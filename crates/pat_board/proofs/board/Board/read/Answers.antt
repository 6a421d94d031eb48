use Rattle.std.proofs.Common.{◌≡◌, [], ap, sym, ◌∙◌, subst, refl}
use Rattle.std.proofs.lemmas.List.{append-nil}
use Rattle.std.proofs.lemmas.List.Elements.{All-nil}
use Rattle.std.specs.Prelude.{IfOk}
use Rattle.pat_reduce.specs.declared.history.Entry.{Entry}
use Rattle.pat_reduce.specs.Views.{config_view}
use Rattle.pat_machine.specs.declared.job.Named.{Named}
use Rattle.pat_workers.specs.turns.Holds.{worker_of, IsHold}
use Rattle.pat_board.specs.Seats.{LeadsTo}
use Rattle.pat_board.proofs.Seats.{found_name}
use Rattle.pat_board.proofs.Seen.{looked, read_leads}
use Rattle.pat_board.proofs.board.Board.read.Goals as goal

pub put_back-requires-clause-log : goal.put_back-requires-clause-log
put_back-requires-clause-log g c = (
  [],
  sym (ap (λ p. p.seen) c.hold-machine.ensures.pass) ∙ sym (append-nil c.hold-machine.new.pass.seen),
  All-nil (λ (e : Entry). worker_of e ≡ c.hold-machine.new.pass.number),
)

pub returns-clause-looked : goal.returns-clause-looked
returns-clause-looked g c =
    let found = c.hold-machine.result in
    let hold : IsHold c.args.seat.now c.put_back.new.pass.seen found found = record { facts = c.config-result.ensures.facts; named = c.hold-machine.ensures.name; prefix = c.hold-machine.ensures.seen; own = c.hold-machine.ensures.own; saw = ap (λ p. p.seen) c.put_back.ensures } in
    looked c.args.seat.now c.put_back.new.pass.seen found found hold (record { named = refl; history = refl })

pub returns-clause-config : goal.returns-clause-config
returns-clause-config g c =
    let found = c.hold-machine.result in
    let seen = c.put_back.new.pass.seen in
    let hold : IsHold c.args.seat.now seen found found = record { facts = c.config-result.ensures.facts; named = c.hold-machine.ensures.name; prefix = c.hold-machine.ensures.seen; own = c.hold-machine.ensures.own; saw = ap (λ p. p.seen) c.put_back.ensures } in
    subst (λ (n : Named). IfOk c.config-result.result (λ k. LeadsTo n seen (config_view k)))
    (found_name c.args.self.now c.args.seat.now found.named c.requires c.hold-machine.ensures.name)
    (read_leads c.args.seat.now seen found found hold c.config-result.result c.config-result.ensures.facts c.config-result.ensures.config)
