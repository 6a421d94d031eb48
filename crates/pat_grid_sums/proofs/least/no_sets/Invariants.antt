use Rattle.pat_grid_sums.specs.Systems.{AreSets, NoPoints}
use Rattle.pat_grid_sums.proofs.least.no_sets.Given as goal

abbrev pub invariant-loop : goal.invariant-loop
invariant-loop l = AreSets l.counter l.words l.sets × NoPoints l.sets
