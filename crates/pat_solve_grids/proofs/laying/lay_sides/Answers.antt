use Rattle.std.proofs.Common.{None, sym, subst}
use Rattle.pat_patterns.specs.Views.{pattern_view}
use Rattle.pat_types.specs.Views.{right_view}
use Rattle.pat_grid_points.specs.symbols.Views.{symbols_view}
use Rattle.pat_solve_bounds.specs.lower_bounds.Sides.{form_side}
use Rattle.pat_solve_bounds.specs.renumbered.Renaming.{place_in, renamed}
use Rattle.pat_solve_grids.specs.Laying.{SidesStand}
use Rattle.pat_solve_grids.proofs.Laid.{none_stand}
use Rattle.pat_solve_grids.proofs.laying.lay_sides.Goals as goal

pub returns-in-Var : goal.returns-in-Var
returns-in-Var c =
    let made = symbols_view c.args.shared.now.symbols in
    let left = renamed (place_in c.args.variables.now) (pattern_view c.args.constraint.now.left) in
    subst (λ r. SidesStand made made left (form_side (right_view r)) None) (sym c.in-Var.is) (none_stand made left c.in-Var.field-0)
