use Rattle.std.proofs.Common.{Some, ap, ◌∙◌}
use Rattle.pat_words_spec.specs.Patterns.{prod_of, star_of}
use Rattle.pat_solve_bounded.specs.Limits.{prod_within}
use Rattle.pat_solve_bounded.specs.Views.{measured_view}
use Rattle.pat_solve_elimination.proofs.Kept.{starred_is}
use Rattle.pat_solve_elimination.proofs.replacing.starred.Goals as goal

pub returns : goal.returns
returns c =
    let s = measured_view c.args.slope in
    let b = measured_view c.args.base in
    c.kept.ensures (prod_of (star_of s) b)
    (c.in_ok-whole.ensures ∙ ap (λ r. prod_within r (Some b)) c.in_ok-rounds.ensures ∙ starred_is s b c.args.base.sizes.small)
