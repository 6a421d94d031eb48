use Rattle.pat_core.specs.Views.{program_view}
use Rattle.pat_solve.proofs.Giving.{if_grids, gives_without}
use Rattle.pat_solve.proofs.interface.forms.grid_form.Goals as goal

pub returns-in_ok-grids-in-Some : goal.returns-in_ok-grids-in-Some
returns-in_ok-grids-in-Some c =
    if_grids (program_view c.args.program.now) c.args.interface c.found_form.result c.args.uncovered c.grid_bound.result c.in-Some.k c.in_ok-grids-in-Some.grids c.requires.uncovered c.in-Some.is c.grid_bound.ensures.some c.in_ok-grids-in-Some.ensures c.found_form.ensures

pub returns-in-None : goal.returns-in-None
returns-in-None c =
    gives_without (program_view c.args.program.now) c.args.interface c.args.uncovered c.grid_bound.result c.without_form.result c.requires.uncovered c.in-None.is c.grid_bound.ensures.none c.without_form.ensures
