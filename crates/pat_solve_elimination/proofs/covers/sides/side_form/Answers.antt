use Rattle.std.proofs.Common.{◌≡◌, IfOk, sym, ◌∙◌, subst}
use Rattle.std.specs.Prelude.{IsTrue, option_map}
use Rattle.pat_words_spec.specs.Patterns.{subst_of}
use Rattle.pat_words_spec.specs.Tags.{tags_below}
use Rattle.pat_patterns.specs.Views.{pattern_view}
use Rattle.pat_inclusion_spec.specs.Counts.{most_tags}
use Rattle.pat_inclusion_spec.specs.ClosedForms.{closed_form}
use Rattle.pat_linear.specs.Views.{sets_view}
use Rattle.pat_solve_bounded.specs.Limits.{within}
use Rattle.pat_solve_bounded.specs.Views.{measured_view, part_view, limited_view}
use Rattle.pat_solve_elimination.specs.assignment.Replacing.{replaced_by}
use Rattle.pat_solve_elimination.proofs.Forms.{none_of, part_is}
use Rattle.pat_solve_elimination.proofs.covers.sides.side_form.Goals as goal

pub form_of-requires : goal.form_of-requires
form_of-requires c =
    let e = subst_of (replaced_by c.args.by.now) (pattern_view c.args.side.now) in
    let own : measured_view c.as_measured.result.now ≡ e = c.as_measured.ensures ∙ part_is e (part_view c.in-Some.part) (subst (λ m. limited_view m ≡ within e) c.in-Some.is c.in_ok-made.ensures) in
    subst (λ x. IsTrue (tags_below most_tags x)) (sym own) c.requires.tags

pub returns-in-Some : goal.returns-in-Some
returns-in-Some c =
    let e = subst_of (replaced_by c.args.by.now) (pattern_view c.args.side.now) in
    let own : measured_view c.as_measured.result.now ≡ e = c.as_measured.ensures ∙ part_is e (part_view c.in-Some.part) (subst (λ m. limited_view m ≡ within e) c.in-Some.is c.in_ok-made.ensures) in
    subst (λ x. IfOk c.form_of.result (λ form. option_map sets_view form ≡ closed_form most_tags x)) own c.form_of.ensures

pub returns-in-None : goal.returns-in-None
returns-in-None c =
    let e = subst_of (replaced_by c.args.by.now) (pattern_view c.args.side.now) in
    none_of most_tags e (subst (λ m. limited_view m ≡ within e) c.in-None.is c.in_ok-made.ensures)
