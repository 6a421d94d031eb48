use Rattle.pat_grid_sums.proofs.Splitting.{some_places}
use Rattle.pat_grid_sums.proofs.sums.set_of.Goals as goal

pub put_all-requires-clause-some : goal.put_all-requires-clause-some
put_all-requires-clause-some c = some_places c.args.shape.k c.requires.shape.0 c.args.shape c.requires.shape.1
