use Rattle.pat_solve_bounds.proofs.PlaceLaws.{place_found, place_missing}
use Rattle.pat_solve_bounds.proofs.renumbered.places.place_among.Goals as goal

pub returns-in-Some : goal.returns-in-Some
returns-in-Some c =
    place_found c.args.variables.now c.in-Some.place c.args.variable c.requires c.in-Some.ensures.some.0 c.in-Some.ensures.some.1

pub returns-in-None : goal.returns-in-None
returns-in-None c = place_missing c.args.variables.now c.args.variable c.in-None.ensures.none
