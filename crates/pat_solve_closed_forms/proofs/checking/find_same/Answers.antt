use Rattle.std.proofs.Common.{◌≡◌, subst}
use Rattle.pat_words_spec.specs.Patterns.{subst_of}
use Rattle.pat_inclusion_spec.specs.Counts.{most_tags}
use Rattle.pat_inclusion_spec.specs.ClosedForms.{closed_form}
use Rattle.pat_types.specs.Views.{right_view}
use Rattle.pat_solve_closed_forms.specs.Sides.{right_pattern}
use Rattle.pat_solve_closed_forms.specs.Forms.{side_view, values_by}
use Rattle.pat_solve_closed_forms.proofs.Reflexive.{follows_there, no_right_form}
use Rattle.pat_solve_closed_forms.proofs.checking.find_same.Goals as goal

pub returns-in-Some : goal.returns-in-Some
returns-in-Some c number =
    let f = subst_of (values_by c.args.by.now) (right_pattern (right_view c.args.side.now)) in
    follows_there number f c.args.before _ _ c.in-Some.is c.in_ok-form.ensures

pub returns-in-None : goal.returns-in-None
returns-in-None c number =
    let f = subst_of (values_by c.args.by.now) (right_pattern (right_view c.args.side.now)) in
    no_right_form number f f c.args.before (subst (λ o. side_view o ≡ closed_form most_tags f) c.in-None.is c.in_ok-form.ensures)
