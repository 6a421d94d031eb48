use Rattle.std.proofs.Common.{◌≡◌, subst}
use Rattle.pat_words_spec.specs.Patterns.{subst_of}
use Rattle.pat_patterns.specs.Views.{pattern_view}
use Rattle.pat_types.specs.Views.{right_view}
use Rattle.pat_solve_bounded.specs.Limits.{within}
use Rattle.pat_solve_bounded.specs.Views.{part_view, limited_view}
use Rattle.pat_solve_closed_forms.specs.Sides.{right_pattern}
use Rattle.pat_solve_closed_forms.specs.Forms.{values_by}
use Rattle.pat_solve_closed_forms.proofs.Reflexive.{compares}
use Rattle.pat_solve_closed_forms.proofs.same.compare.Goals as goal

pub returns-in-Some-Some : goal.returns-in-Some-Some
returns-in-Some-Some c =
    let e = subst_of (values_by c.args.by.now) (pattern_view c.args.left.now) in
    let f = subst_of (values_by c.args.by.now) (right_pattern (right_view c.args.right.now)) in
    compares e f (part_view c.in-Some-Some.left) (part_view c.in-Some-Some.right) c.compare_parts.result
    (subst (λ o. limited_view o ≡ within e) c.in-Some-Some.is-0 c.in_ok-left.ensures)
    (subst (λ o. limited_view o ≡ within f) c.in-Some-Some.is-1 c.in_ok-right.ensures)
    c.compare_parts.ensures
