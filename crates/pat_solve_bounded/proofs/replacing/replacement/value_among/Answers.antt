use Rattle.pat_solve_bounded.specs.Views.{measured_view, measured_list}
use Rattle.pat_solve_bounded.proofs.Lookups.{found_value, missing_value}
use Rattle.pat_solve_bounded.proofs.replacing.replacement.value_among.Goals as goal

pub returns-in-Some : goal.returns-in-Some
returns-in-Some c =
    let e = found_value measured_view c.index-values-place.result c.args.variables.now c.args.values.now c.args.variable c.in-Some.place c.requires.ascending c.requires.as_many c.in-Some.ensures.some.0 c.in-Some.ensures.some.1 in
    let i = c.index-values-place.is in
    cc

pub returns-in-None : goal.returns-in-None
returns-in-None c =
    missing_value c.args.variables.now (measured_list c.args.values.now) c.args.variable c.in-None.ensures.none
