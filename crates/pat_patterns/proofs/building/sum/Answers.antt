use Rattle.std.proofs.Common.{rules, arith}
use Rattle.pat_patterns.specs.Views.{pattern_view}
use Rattle.pat_patterns.proofs.Forms.{sum_left, sum_same, sum_both}
use Rattle.pat_patterns.proofs.building.sum.Goals as goal
use Rattle.pat_patterns.proofs.building.sum.Goals.{then-is_zero-2-via-then-is_zero-2, then-is_zero-2-via-else-is_zero-2+then-is_same}

pub returns-then-is_zero-2 : goal.returns-then-is_zero-2
returns-then-is_zero-2 c =
    let e = pattern_view c.args.left in
    let f = pattern_view c.args.right in
    elim c.then-is_zero-2.branch [
      | then-is_zero-2-via-then-is_zero-2 w ↦ sum_left e f (search rules) (search rules)
      | then-is_zero-2-via-else-is_zero-2+then-is_same w ↦ sum_same e f (search rules)
    ]

pub returns : goal.returns
returns c =
    let e = pattern_view c.args.left in
    let f = pattern_view c.args.right in
    let whole = sum_both e f (search rules) (search rules) (λ same. let yes = c.is_same.ensures.1 same in let no = c.if-is_same.false in cc) in
    grind (arith, whole)
