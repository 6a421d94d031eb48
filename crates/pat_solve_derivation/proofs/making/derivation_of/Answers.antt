use Rattle.std.proofs.Common.{sym, subst}
use Rattle.std.proofs.lemmas.Result.{IfOk-weaker}
use Rattle.pat_derivation_spec.specs.Validity.{IsValid}
use Rattle.pat_solve_spec.specs.Derived.{ValuesShow}
use Rattle.pat_core.specs.Views.{program_view}
use Rattle.pat_derivations.specs.Views.{vars_view, derivation_view}
use Rattle.pat_solve_bounds.specs.results.Views.{forms_of}
use Rattle.pat_solve_derivation.specs.Made.{IsDerived}
use Rattle.pat_solve_derivation.proofs.Showing.{solution_shows, derived_valid}
use Rattle.pat_solve_derivation.proofs.making.derivation_of.Goals as goal

pub derived-requires-clause-show : goal.derived-requires-clause-show
derived-requires-clause-show c =
    let p = program_view c.args.program.now in
    let parts = c.into_parts-bounds in
    subst (λ bounds. ValuesShow p (vars_view parts.result.1) (forms_of bounds)) (sym c.as_slice.ensures)
    (subst (λ bounds. ValuesShow p (vars_view parts.result.1) (forms_of bounds)) (sym parts.ensures.bounds)
    (subst (λ values. ValuesShow p (vars_view values) (forms_of c.args.solution.bounds)) (sym parts.ensures.values)
    (solution_shows c.answer_laws.ensures.shows p c.args.solution c.requires.well c.requires.clean c.requires.solution)))

pub returns-clause-valid : goal.returns-clause-valid
returns-clause-valid c =
    let p = program_view c.args.program.now in
    let parts = c.into_parts-bounds in
    let vars = vars_view parts.result.1 in
    let forms = forms_of c.as_slice.result.now in
    let show = subst (λ bounds. ValuesShow p vars (forms_of bounds)) (sym c.as_slice.ensures)
    (subst (λ bounds. ValuesShow p vars (forms_of bounds)) (sym parts.ensures.bounds)
    (subst (λ values. ValuesShow p (vars_view values) (forms_of c.args.solution.bounds)) (sym parts.ensures.values)
    (solution_shows c.answer_laws.ensures.shows p c.args.solution c.requires.well c.requires.clean c.requires.solution))) in
    IfOk-weaker c.derived.result (λ d. IsDerived p vars forms (derivation_view d)) (λ d. IsValid p (derivation_view d))
    (λ d h. derived_valid c.derived_laws.ensures.valid p vars forms (derivation_view d) c.requires.well c.requires.clean show h)
    c.derived.ensures
