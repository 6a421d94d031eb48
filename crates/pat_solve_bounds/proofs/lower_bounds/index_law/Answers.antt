use Rattle.pat_solve_bounds.proofs.Ties.{indexed}
use Rattle.pat_solve_bounds.proofs.lower_bounds.index_law.Goals as goal

pub returns : goal.returns
returns c p q x h k = indexed p q x h k
