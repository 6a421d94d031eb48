use Rattle.std.proofs.Common.{◌≡◌, IfOk, sym, subst}
use Rattle.pat_words_spec.specs.Patterns.{subst_of}
use Rattle.pat_patterns.specs.Views.{pattern_view}
use Rattle.pat_types.specs.Views.{right_view}
use Rattle.pat_solve_closed_forms.specs.Sides.{right_pattern}
use Rattle.pat_solve_closed_forms.specs.Forms.{values_by}
use Rattle.pat_solve_closed_forms.specs.Findings.{Follows}
use Rattle.pat_solve_closed_forms.specs.Comparisons.{Compares}
use Rattle.pat_solve_closed_forms.proofs.Reflexive.{follows_with_form}
use Rattle.pat_solve_closed_forms.proofs.checking.find_compared.Goals as goal

pub returns-in-SameWithForm : goal.returns-in-SameWithForm
returns-in-SameWithForm c =
    let e = subst_of (values_by c.args.by.now) (pattern_view c.args.constraint.now.left) in
    let f = subst_of (values_by c.args.by.now) (right_pattern (right_view c.args.constraint.now.right)) in
    follows_with_form c.args.number e f c.args.before (subst (Compares e f) c.in-SameWithForm.is c.requires.compared)

pub returns-in-Same : goal.returns-in-Same
returns-in-Same c =
    let e = subst_of (values_by c.args.by.now) (pattern_view c.args.constraint.now.left) in
    let f = subst_of (values_by c.args.by.now) (right_pattern (right_view c.args.constraint.now.right)) in
    let same : e ≡ f = subst (Compares e f) c.in-Same.is c.requires.compared in
    subst (λ x. IfOk c.find_same.result (Follows c.args.number x f c.args.before)) (sym same) (c.find_same.ensures c.args.number)
