use Rattle.std.proofs.Common.{List, Some, ap, sym, ◌∙◌, subst}
use Rattle.pat_reduce.specs.declared.history.Entry.{Entry}
use Rattle.pat_turn.specs.Shown.{GoesOn}
use Rattle.pat_workers.specs.turns.Holds.{worker_of}
use Rattle.pat_workers.proofs.Histories.{none_added, give_back_log}
use Rattle.pat_workers.proofs.turns.holds.give_back_in_turn.Goals as goal

pub put-requires-clause-name : goal.put-requires-clause-name
put-requires-clause-name g c =
    ap (λ p. p.name) c.hold-machine.ensures.pass ∙ c.hold-machine.ensures.name ∙ ap (λ n. Some n) (sym (give_back_log c.hold-machine.result c.give_back.new.self c.args.job c.give_back.ensures).named)

pub put-requires-clause-log : goal.put-requires-clause-log
put-requires-clause-log g c =
    subst (λ (seen : List Entry). GoesOn worker_of c.hold-machine.new.pass.number seen c.give_back.new.self.history) (sym (ap (λ p. p.seen) c.hold-machine.ensures.pass))
    (none_added c.hold-machine.new.pass.number c.hold-machine.result.history c.give_back.new.self.history (give_back_log c.hold-machine.result c.give_back.new.self c.args.job c.give_back.ensures).history)

pub returns-clause-back : goal.returns-clause-back
returns-clause-back g c = (
  c.hold-machine.result,
  c.give_back.new.self,
  record { facts = c.history-history.ensures.facts; named = c.hold-machine.ensures.name; prefix = c.hold-machine.ensures.seen; own = c.hold-machine.ensures.own; saw = ap (λ p. p.seen) c.put.ensures },
  c.give_back.ensures,
)
