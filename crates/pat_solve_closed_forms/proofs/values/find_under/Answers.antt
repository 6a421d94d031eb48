use Rattle.std.proofs.Common.{length, subst}
use Rattle.pat_solve_spec.specs.Assignments.{value_in}
use Rattle.pat_solve_bounded.specs.Views.{measured_list}
use Rattle.pat_solve_bounded.specs.replacing.Ascending.{paired}
use Rattle.pat_solve_closed_forms.specs.Findings.{Finds}
use Rattle.pat_solve_closed_forms.proofs.values.find_under.Goals as goal

pub returns : goal.returns
returns c = (
  c.in_ok-found.found,
  subst (λ ms. Finds (value_in (paired c.args.variables.now (measured_list ms))) c.args.constraints.now c.args.numbers.now (length c.args.numbers.now) c.in_ok-found.found) c.as_slice.ensures c.in_ok-found.ensures,
  c.answer.ensures,
)
