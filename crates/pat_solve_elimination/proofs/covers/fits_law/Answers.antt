use Rattle.pat_solve_elimination.proofs.Fitting.{fits}
use Rattle.pat_solve_elimination.proofs.covers.fits_law.Goals as goal

pub returns : goal.returns
returns c n cs ks = fits n cs ks
