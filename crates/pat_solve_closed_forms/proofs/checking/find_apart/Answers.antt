use Rattle.std.proofs.Common.{◌≡◌, ◌≤◌, Some, length, arith, subst}
use Rattle.pat_words_spec.specs.Patterns.{subst_of}
use Rattle.pat_inclusion_spec.specs.Counts.{most_tags}
use Rattle.pat_inclusion_spec.specs.ClosedForms.{closed_form}
use Rattle.pat_patterns.specs.Views.{pattern_view}
use Rattle.pat_types.specs.Views.{right_view}
use Rattle.pat_solve_elimination.proofs.Forms.{form_short}
use Rattle.pat_solve_closed_forms.specs.Sides.{right_pattern}
use Rattle.pat_solve_closed_forms.specs.Forms.{side_sets, side_view, values_by}
use Rattle.pat_solve_closed_forms.proofs.Reflexive.{no_right_form}
use Rattle.pat_solve_closed_forms.proofs.checking.find_apart.Goals as goal
use Rattle.pat_limits.specs.Limits.{most_sets}

pub find_against-requires-clause-right : goal.find_against-requires-clause-right
find_against-requires-clause-right c =
    let f = subst_of (values_by c.args.by.now) (right_pattern (right_view c.args.constraint.now.right)) in
    let own : Some (side_sets c.in-Some.form) ≡ closed_form most_tags f = subst (λ o. side_view o ≡ closed_form most_tags f) c.in-Some.is c.in_ok-right.ensures in
    let short : length (side_sets c.in-Some.form) ≤ most_sets = form_short most_tags f (side_sets c.in-Some.form) own in
    omega (arith, short)

pub returns-in-Some : goal.returns-in-Some
returns-in-Some c =
    let f = subst_of (values_by c.args.by.now) (right_pattern (right_view c.args.constraint.now.right)) in
    c.find_against.ensures f (subst (λ o. side_view o ≡ closed_form most_tags f) c.in-Some.is c.in_ok-right.ensures)

pub returns-in-None : goal.returns-in-None
returns-in-None c =
    let e = subst_of (values_by c.args.by.now) (pattern_view c.args.constraint.now.left) in
    let f = subst_of (values_by c.args.by.now) (right_pattern (right_view c.args.constraint.now.right)) in
    no_right_form c.args.number e f c.args.before (subst (λ o. side_view o ≡ closed_form most_tags f) c.in-None.is c.in_ok-right.ensures)
