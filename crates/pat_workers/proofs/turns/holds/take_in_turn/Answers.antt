use Rattle.std.proofs.Common.{List, Some, ap, sym, ◌∙◌, subst}
use Rattle.pat_reduce.specs.declared.history.Entry.{Entry}
use Rattle.pat_turn.specs.Shown.{GoesOn}
use Rattle.pat_workers.specs.turns.Holds.{worker_of}
use Rattle.pat_workers.proofs.Histories.{none_added, taking_log}
use Rattle.pat_workers.proofs.turns.holds.take_in_turn.Goals as goal

pub put_back-requires-clause-name : goal.put_back-requires-clause-name
put_back-requires-clause-name g c =
    ap (λ p. p.name) c.hold-machine.ensures.pass ∙ c.hold-machine.ensures.name ∙ ap (λ n. Some n) (sym (taking_log c.hold-machine.result c.take-taken.new.machine c.take-taken.result c.take-taken.ensures).named)

pub put_back-requires-clause-log : goal.put_back-requires-clause-log
put_back-requires-clause-log g c =
    subst (λ (seen : List Entry). GoesOn worker_of c.hold-machine.new.pass.number seen c.take-taken.new.machine.history) (sym (ap (λ p. p.seen) c.hold-machine.ensures.pass))
    (none_added c.hold-machine.new.pass.number c.hold-machine.result.history c.take-taken.new.machine.history (taking_log c.hold-machine.result c.take-taken.new.machine c.take-taken.result c.take-taken.ensures).history)

pub returns-clause-taken : goal.returns-clause-taken
returns-clause-taken g c = (
  c.hold-machine.result,
  c.take-taken.new.machine,
  record { facts = c.history-history.ensures.facts; named = c.hold-machine.ensures.name; prefix = c.hold-machine.ensures.seen; own = c.hold-machine.ensures.own; saw = ap (λ p. p.seen) c.put_back.ensures },
  c.take-taken.ensures,
)
