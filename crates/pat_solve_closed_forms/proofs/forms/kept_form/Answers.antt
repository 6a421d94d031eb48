use Rattle.std.proofs.Common.{◌≡◌, Some, refl}
use Rattle.std.specs.Prelude.{slice_get}
use Rattle.std.proofs.lemmas.Option.{slice_get_read}
use Rattle.pat_solve_closed_forms.proofs.Kept.{kept_there, place_within}
use Rattle.pat_solve_closed_forms.proofs.forms.kept_form.Goals as goal

pub bounds-forms-place : goal.bounds-forms-place
bounds-forms-place c =
    place_within c.args.by.now c.args.forms.now c.in-Some.place c.requires.forms c.in-Some.ensures.some.0

pub returns-in-Some : goal.returns-in-Some
returns-in-Some c =
    let by = c.args.by.now in
    let forms = c.args.forms.now in
    let place = c.in-Some.place in
    let x = c.index-forms-place.result in
    let at : slice_get forms place ≡ Some x = slice_get_read forms _ place x refl (place_within by forms place c.requires.forms c.in-Some.ensures.some.0) c.index-forms-place.is in
    kept_there by forms place c.args.variable x c.requires.forms at c.in-Some.ensures.some.1
