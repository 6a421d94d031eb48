use Rattle.std.proofs.lemmas.Result.{err_from_is_err_and}
use Rattle.pat_solve_bounded.specs.Views.{measured_view, measured_list}
use Rattle.pat_solve_bounded.specs.replacing.Ascending.{paired}
use Rattle.pat_solve_elimination.proofs.Steps.{not_replaced, solved}
use Rattle.pat_solve_elimination.proofs.assignment.first.eliminate.Goals as goal

pub returns-in_err-f : goal.returns-in_err-f
returns-in_err-f c =
    let q = err_from_is_err_and c.from_residual.result c.from_residual.ensures.1 in
    rw (q.1, q.2) (not_replaced (paired c.args.earlier.now (measured_list c.args.values.now)) c.args.variable (measured_view c.args.lower.now) c.in_err-f.field-0.0 c.in_err-f.ensures)

pub returns : goal.returns
returns c =
    solved (paired c.args.earlier.now (measured_list c.args.values.now)) c.args.variable (measured_view c.args.lower.now) (measured_view c.in_ok-f.f) c.solve_for.result c.in_ok-f.ensures.0 c.in_ok-f.ensures.1 c.solve_for.ensures
