use Rattle.std.proofs.Common.{List, Some, ap, sym, ◌∙◌, subst}
use Rattle.pat_reduce.specs.declared.history.Entry.{Entry}
use Rattle.pat_turn.specs.Shown.{GoesOn}
use Rattle.pat_workers.specs.turns.Holds.{worker_of}
use Rattle.pat_workers.specs.turns.Holds.{CommittingGives}
use Rattle.pat_workers.proofs.Histories.{commit_named, commit_goes_on}
use Rattle.pat_workers.proofs.turns.holds.commit_in_turn.Goals as goal

pub commit-result-requires : goal.commit-result-requires
commit-result-requires g c = c.requires.run c.hold-machine.result.named c.hold-machine.ensures.name

pub put_back-requires-clause-name : goal.put_back-requires-clause-name
put_back-requires-clause-name g c =
    ap (λ p. p.name) c.hold-machine.ensures.pass ∙ c.hold-machine.ensures.name ∙ ap (λ n. Some n) (sym (commit_named c.number-worker.result c.hold-machine.result c.commit-result.new.machine c.args.job c.commit-result.result c.commit-result.ensures))

pub put_back-requires-clause-log : goal.put_back-requires-clause-log
put_back-requires-clause-log g c =
    let worker = c.number-worker.ensures ∙ sym (ap (λ p. p.number) c.hold-machine.ensures.pass) in
    subst (λ (seen : List Entry). GoesOn worker_of c.hold-machine.new.pass.number seen c.commit-result.new.machine.history) (sym (ap (λ p. p.seen) c.hold-machine.ensures.pass))
    (subst (λ w. GoesOn worker_of w c.hold-machine.result.history c.commit-result.new.machine.history) worker
    (commit_goes_on c.number-worker.result c.hold-machine.result c.commit-result.new.machine c.args.job c.commit-result.result c.commit-result.ensures))

pub returns-clause-committed : goal.returns-clause-committed
returns-clause-committed g c = (
  c.hold-machine.result,
  c.commit-result.new.machine,
  record { facts = c.history-history.ensures.facts; named = c.hold-machine.ensures.name; prefix = c.hold-machine.ensures.seen; own = c.hold-machine.ensures.own; saw = ap (λ p. p.seen) c.put_back.ensures },
  subst (λ w. CommittingGives c.hold-machine.result w c.args.job c.commit-result.result c.commit-result.new.machine) c.number-worker.ensures c.commit-result.ensures,
)
