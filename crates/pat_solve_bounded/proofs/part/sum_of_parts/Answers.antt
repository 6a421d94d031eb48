use Rattle.std.proofs.Common.{rules, ◌≡◌, IfOk, subst}
use Rattle.pat_solve_bounded.specs.Limits.{within}
use Rattle.pat_solve_bounded.specs.Views.{part_view, limited_view}
use Rattle.pat_solve_bounded.proofs.Sums.{same_sum, kept_sum_is}
use Rattle.pat_solve_bounded.proofs.part.sum_of_parts.Goals as goal

pub returns-then-is_same : goal.returns-then-is_same
returns-then-is_same c =
    same_sum (part_view c.args.left) (part_view c.args.right) (search rules) (search rules) (search rules) (search rules)

pub returns : goal.returns
returns c =
    subst (λ s. IfOk c.kept_sum.result (λ p. limited_view p ≡ within s))
    (kept_sum_is (part_view c.args.left) (part_view c.args.right) (search rules) (search rules) (λ same. let yes = c.is_same.ensures.1 (search rules) in let no = c.if-is_same.false in cc))
    c.kept_sum.ensures
