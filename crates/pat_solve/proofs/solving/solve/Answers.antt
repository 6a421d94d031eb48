use Rattle.pat_core.specs.Views.{program_view}
use Rattle.pat_solve.proofs.Ends.{exact, smallest, untypable, complete}
use Rattle.pat_solve.proofs.solving.solve.Goals as goal

pub returns-clause-exact : goal.returns-clause-exact
returns-clause-exact c = exact (program_view c.args.program.now) c.answer.result c.answer.ensures

pub returns-clause-smallest : goal.returns-clause-smallest
returns-clause-smallest c = smallest (program_view c.args.program.now) c.answer.result c.answer.ensures

pub returns-clause-untypable : goal.returns-clause-untypable
returns-clause-untypable c =
    let p = program_view c.args.program.now in
    untypable p c.requires.well c.refusal_laws.ensures.refuted c.refusal_laws.ensures.large c.answer.result (exact p c.answer.result c.answer.ensures)

pub returns-clause-complete : goal.returns-clause-complete
returns-clause-complete c =
    let p = program_view c.args.program.now in
    complete p c.requires.well c.answer_laws.ensures.exactly c.requires.enough.clean c.answer.result (exact p c.answer.result c.answer.ensures)
