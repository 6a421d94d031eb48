use Rattle.pat_grid_sums.proofs.moving.+unit_of.Given as goal

abbrev pub decreases-unit_of : goal.decreases-unit_of
decreases-unit_of l = l.tags
