use Rattle.std.proofs.Common.{Some, IfOk, sym, ap, ◌∙◌, subst}
use Rattle.pat_solve_closed_forms.specs.declared.checking.Finding.TheVariants.{Uncovered}
use Rattle.pat_solve_closed_forms.specs.Forms.{side_sets}
use Rattle.pat_solve_closed_forms.specs.Findings.{Follows}
use Rattle.pat_solve_closed_forms.proofs.Steps.{follows_uncovered, few_sets}
use Rattle.pat_solve_closed_forms.proofs.checking.find_covering.Goals as goal

pub find_first-requires : goal.find_first-requires
find_first-requires c =
    few_sets c.as_slice-in-Covered.result.now (side_sets c.args.right) c.as_slice-in-Covered.ensures c.requires

pub returns-in-Covered : goal.returns-in-Covered
returns-in-Covered c e f a b =
    subst (λ x. IfOk c.find_first.result (Follows c.args.number e f x)) (sym c.in-Covered.is)
    (c.find_first.ensures e f (ap Some c.as_slice.ensures ∙ a) (ap Some c.as_slice-in-Covered.ensures ∙ b))

pub returns-in-Uncovered : goal.returns-in-Uncovered
returns-in-Uncovered c e f a b =
    subst (λ x. Follows c.args.number e f x (Uncovered c.in-Uncovered.first)) (sym c.in-Uncovered.is)
    (follows_uncovered c.args.number c.in-Uncovered.first e f (side_sets c.args.left) (side_sets c.args.right) a b)
