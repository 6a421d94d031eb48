use Rattle.std.proofs.Common.{◌≡◌, subst}
use Rattle.pat_words_spec.specs.Patterns.{subst_of}
use Rattle.pat_inclusion_spec.specs.Counts.{most_tags}
use Rattle.pat_inclusion_spec.specs.ClosedForms.{closed_form}
use Rattle.pat_patterns.specs.Views.{pattern_view}
use Rattle.pat_solve_closed_forms.specs.Forms.{side_view, values_by}
use Rattle.pat_solve_closed_forms.proofs.Reflexive.{no_left_form}
use Rattle.pat_solve_closed_forms.proofs.checking.find_against.Goals as goal

pub returns-in-Some : goal.returns-in-Some
returns-in-Some c f own =
    let e = subst_of (values_by c.args.by.now) (pattern_view c.args.left.now) in
    c.find_covering.ensures e f (subst (λ o. side_view o ≡ closed_form most_tags e) c.in-Some.is c.in_ok-form.ensures) own

pub returns-in-None : goal.returns-in-None
returns-in-None c f own =
    let e = subst_of (values_by c.args.by.now) (pattern_view c.args.left.now) in
    no_left_form c.args.number e f c.args.before (subst (λ o. side_view o ≡ closed_form most_tags e) c.in-None.is c.in_ok-form.ensures)
