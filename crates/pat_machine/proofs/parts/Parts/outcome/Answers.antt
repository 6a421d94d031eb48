use Rattle.std.proofs.Common.{inl, sym, subst}
use Rattle.pat_core.specs.Views.{program_view}
use Rattle.pat_machine_indexes.specs.ready_sets.Senders.{AreCandidates}
use Rattle.pat_machine_indexes.proofs.Noting.{candidates}
use Rattle.pat_machine.proofs.Ending.{lent_out, stuck, full, spent, goes_on}
use Rattle.pat_machine.proofs.Naming.{told}
use Rattle.pat_machine.proofs.parts.Parts.outcome.Goals as goal

pub prospect-requires-clause-told : goal.prospect-requires-clause-told
prospect-requires-clause-told c = told c.args.self.now c.requires

pub returns-then-self-gt0 : goal.returns-then-self-gt0
returns-then-self-gt0 c = inl (lent_out c.outcome_laws.ensures.outcomes c.args.self.now c.requires c.if-self-gt0.true)

pub prospect-requires-clause-candidates : goal.prospect-requires-clause-candidates
prospect-requires-clause-candidates c =
    let m = c.args.self.now in
    let p = program_view m.code.program in
    subst (λ l. AreCandidates p m.state.config l c.as_slice-senders.result.now) (sym c.as_slice-others.ensures.value)
    (subst (AreCandidates p m.state.config m.waits.awake.numbers.items) (sym c.as_slice-senders.ensures.value) (candidates p m.state.config m.waits c.requires.noted))

pub returns-in-Stuck : goal.returns-in-Stuck
returns-in-Stuck c = stuck c.outcome_laws.ensures.outcomes c.args.self.now c.requires c.if-self-gt0.false c.in-Stuck.ensures

pub returns-in-Full : goal.returns-in-Full
returns-in-Full c = full c.outcome_laws.ensures.outcomes c.args.self.now c.requires c.if-self-gt0.false c.in-Full.ensures

pub returns-in-Open : goal.returns-in-Open
returns-in-Open c = spent c.outcome_laws.ensures.outcomes c.args.self.now c.requires c.if-self-gt0.false c.if-self-eq0.true c.in-Open.ensures

pub returns-in-Open-2 : goal.returns-in-Open-2
returns-in-Open-2 c = goes_on c.outcome_laws.ensures.outcomes c.args.self.now c.requires c.if-self-gt0.false c.if-self-eq0.false c.in-Open-2.ensures
