use Rattle.std.proofs.Common.{ap, sym, ◌∙◌}
use Rattle.pat_grid_points.specs.Views.{summed}
use Rattle.pat_grid_points.proofs.Digits.{summed_zero_left, summed_zero_right}
use Rattle.pat_grid_points.proofs.numbers.sum_of_points.Goals as goal

pub returns-then-first-eq0 : goal.returns-then-first-eq0
returns-then-first-eq0 c =
    let a = c.args in
    summed_zero_left a.k a.tags a.second c.requires.second ∙ ap (λ n. summed a.k a.tags n a.second) (sym c.if-first-eq0.true)

pub returns-then-second-eq0 : goal.returns-then-second-eq0
returns-then-second-eq0 c =
    let a = c.args in
    summed_zero_right a.k a.tags a.first c.requires.first ∙ ap (λ n. summed a.k a.tags a.first n) (sym c.if-second-eq0.true)
