use Rattle.std.proofs.Common.{[]}
use Rattle.std.proofs.lemmas.Result.{err_from_is_err_and}
use Rattle.pat_solve_spec.specs.Assignments.{second_round}
use Rattle.pat_solve_bounded.specs.Views.{measured_list}
use Rattle.pat_solve_bounded.specs.replacing.Ascending.{paired}
use Rattle.pat_solve_elimination.specs.Rounds.{first_from, first_fits, second_fits}
use Rattle.pat_solve_elimination.proofs.Steps.{none_first, both_rounds_give}
use Rattle.pat_solve_elimination.proofs.assignment.assigning.both_rounds.Goals as goal

pub returns-in_err-values : goal.returns-in_err-values
returns-in_err-values c =
    let fs = paired c.args.variables.now (measured_list c.args.lowers.now) in
    let q = err_from_is_err_and c.from_residual.result c.from_residual.ensures.1 in
    rw (q.1, q.2) (none_first c.args.variables.now (first_fits [] fs) (second_fits (first_from [] fs)) (first_from [] fs) (second_round (first_from [] fs)) c.in_err-values.field-0.0 c.in_err-values.ensures.values)

pub returns : goal.returns
returns c =
    let fs = paired c.args.variables.now (measured_list c.args.lowers.now) in
    both_rounds_give c.args.variables.now (first_fits [] fs) (first_from [] fs) (paired c.args.variables.now (measured_list c.in_ok-values.values)) c.second_round.result c.in_ok-values.ensures.values.0 c.in_ok-values.ensures.values.2 c.second_round.ensures
