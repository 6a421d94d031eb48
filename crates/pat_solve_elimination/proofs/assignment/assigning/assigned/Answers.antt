use Rattle.pat_solve_bounded.specs.Views.{measured_list}
use Rattle.pat_solve_elimination.proofs.Ties.{all_small, tied}
use Rattle.pat_solve_elimination.proofs.assignment.assigning.assigned.Goals as goal

pub returns : goal.returns
returns c cs are =
    tied cs c.args.variables.now (measured_list c.args.lowers.now) c.both_rounds.result are (all_small c.args.lowers.now) c.both_rounds.ensures
