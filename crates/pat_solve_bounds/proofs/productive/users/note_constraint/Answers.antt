use Rattle.std.proofs.Common.{length, refl, ap, ◌∙◌}
use Rattle.std.specs.Prelude.{option_map}
use Rattle.std.proofs.lemmas.Option.{slice_get-map, slice_get_read}
use Rattle.pat_patterns.specs.Views.{pattern_view}
use Rattle.pat_solve_bounds.specs.lower_bounds.Sides.{sides_view, sides_list}
use Rattle.pat_solve_bounds.specs.productive.Users.{Notes, NotesAt}
use Rattle.pat_solve_bounds.proofs.Noting.{on_ok}
use Rattle.pat_solve_bounds.proofs.productive.users.note_constraint.Goals as goal

pub returns : goal.returns
returns c =
    let constraints = c.args.constraints.now in
    let number = c.args.number in
    let x = c.index-constraints-number.result in
    on_ok c.note.result (Notes (pattern_view x.left) number c.args.users.now c.note.new.users) (NotesAt (sides_list constraints) number c.args.users.now c.note.new.users)
    (λ h. (
      sides_view x,
      slice_get-map sides_view constraints number
          ∙ ap (option_map sides_view) (slice_get_read constraints (length constraints) number x refl c.requires c.index-constraints-number.is),
      h,
    ))
    c.note.ensures
