use Rattle.std.proofs.Common.{◌≡◌, ◌<◌, length, map, Some, IfOk, sym, ap, ◌∙◌, subst}
use Rattle.std.specs.Prelude.{get_or, option_map}
use Rattle.pat_words_spec.specs.Patterns.{Zero}
use Rattle.pat_solve_bounded.specs.Views.{measured_view}
use Rattle.pat_solve_bounds.specs.lower_bounds.Sides.{left_at}
use Rattle.pat_solve_bounds.specs.lower_bounds.Sums.{sum_all}
use Rattle.pat_solve_bounds.proofs.Adding.{lefts_within, sum_is}
use Rattle.pat_solve_bounds.proofs.lower_bounds.bounds.lower_bound.Goals as goal

pub sum_of_lefts-requires : goal.sum_of_lefts-requires
sum_of_lefts-requires c j l =
    let ns = c.lefts_of.result.now in
    let cs = c.args.problem.now.constraints in
    subst (λ xs. get_or ns j 0 < length xs) (sym c.as_slice.ensures)
    (lefts_within c.args.variable cs ns (c.lefts_of.ensures ∙ c.requires.index.lefts c.args.variable c.requires.variable) j l)

pub returns : goal.returns
returns c =
    let ns = c.lefts_of.result.now in
    let cs = c.args.problem.now.constraints in
    subst (λ e. IfOk c.sum_of_lefts.result (λ m. option_map measured_view m ≡ e))
    (ap (λ xs. sum_all (Some Zero) (map (left_at xs) ns)) c.as_slice.ensures
    ∙ sum_is c.args.variable cs ns (c.lefts_of.ensures ∙ c.requires.index.lefts c.args.variable c.requires.variable))
    c.sum_of_lefts.ensures
