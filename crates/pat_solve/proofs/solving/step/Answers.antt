use Rattle.std.proofs.Common.{◌≡◌, ◌∙◌, arith}
use Rattle.std.proofs.lemmas.List.{length-map}
use Rattle.pat_core.specs.Views.{interface_view, program_view}
use Rattle.pat_infer_spec.specs.Walk.{all_vars}
use Rattle.pat_solve_spec.specs.Assignments.{vars_in}
use Rattle.pat_solve.proofs.Steps.{step_stands, step_refusal}
use Rattle.pat_solve.proofs.solving.step.Goals as goal

pub returns-clause-stands : goal.returns-clause-stands
returns-clause-stands c =
    let p = program_view c.args.program.now in
    let indexed = c.index_law.ensures c.args.program.now c.args.problem.now c.args.index.now c.requires.problem c.requires.index in
    let there = c.requires.there in
    let as_many = c.requires.as_many in
    let variables : c.variables_of-variables.result.now ≡ vars_in c.args.interface 1 (all_vars p) =
    c.variables_of-variables.ensures ∙ indexed.variables c.args.interface (omega (arith, there, as_many)) in
    step_stands p c.args.interface c.args.state c.variables_of-variables.result.now c.in_ok-form.form c.took.result variables c.in_ok-form.ensures c.took.ensures c.requires.state

pub returns-clause-refusal : goal.returns-clause-refusal
returns-clause-refusal c =
    let p = program_view c.args.program.now in
    let there = c.requires.there in
    let long = length-map c.args.program.now.interfaces interface_view in
    step_refusal p c.args.interface c.args.state c.variables_of-variables.result.now c.in_ok-form.form c.took.result (omega (arith, there, long)) c.in_ok-form.ensures c.took.ensures c.requires.state
