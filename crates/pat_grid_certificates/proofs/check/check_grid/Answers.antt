use Rattle.std.proofs.Common.{◌≡◌, true, sym, ◌∙◌, subst}
use Rattle.pat_patterns.specs.Views.{pattern_view}
use Rattle.pat_grid_certificates.specs.Views.{values_view, right_view}
use Rattle.pat_grid_certificates.specs.Shows.{is_large}
use Rattle.pat_grid_certificates.specs.Cutting.{AreValueGrids}
use Rattle.pat_grid_certificates.proofs.Including.{answer_included}
use Rattle.pat_grid_certificates.proofs.Meaning.{are_grids, grids_like, tags_like, pattern_answer, one_answer}
use Rattle.pat_grid_certificates.proofs.check.check_grid.Goals as goal

pub words_lie_in-requires-clause-tags : goal.words_lie_in-requires-clause-tags
words_lie_in-requires-clause-tags c =
    tags_like c.args.tags (pattern_view c.args.left.now) c.in_ok-rights-in-Pattern.rights c.requires.left c.in_ok-rights-in-Pattern.ensures.like.1

pub words_lie_in-requires-clause-grids : goal.words_lie_in-requires-clause-grids
words_lie_in-requires-clause-grids c =
    let vs = values_view c.args.vars.now in
    let are = subst (AreValueGrids c.args.k c.args.tags vs) (sym c.as_slice-grids.ensures) c.in_ok-env.ensures in
    grids_like c.args.k c.args.tags c.as_slice-grids.result.now c.in_ok-rights-in-Pattern.rights (are_grids c.args.k c.args.tags vs c.as_slice-grids.result.now are) c.in_ok-rights-in-Pattern.ensures.like

pub words_lie_in_one-requires-clause-grids : goal.words_lie_in_one-requires-clause-grids
words_lie_in_one-requires-clause-grids c =
    let vs = values_view c.args.vars.now in
    let are = subst (AreValueGrids c.args.k c.args.tags vs) (sym c.as_slice-grids.ensures) c.in_ok-env.ensures in
    are_grids c.args.k c.args.tags vs c.as_slice-grids.result.now are

pub returns-in-Pattern-clause-shown : goal.returns-in-Pattern-clause-shown
returns-in-Pattern-clause-shown c =
    let vs = values_view c.args.vars.now in
    let are = subst (AreValueGrids c.args.k c.args.tags vs) (sym c.as_slice-grids.ensures) c.in_ok-env.ensures in
    let large : is_large c.args.k vs (right_view c.args.right.now) ≡ true = sym c.is_large_enough.ensures ∙ c.if-not-is_large_enough.false in
    pattern_answer c.args.k c.args.tags vs c.as_slice-grids.result.now c.requires.values are c.args.right.now c.in-Pattern.f (pattern_view c.args.left.now) c.in_ok-rights-in-Pattern.rights c.words_lie_in.result c.in-Pattern.is large c.in_ok-rights-in-Pattern.ensures.like c.in_ok-rights-in-Pattern.ensures.points c.words_lie_in.ensures

pub returns-clause-shown : goal.returns-clause-shown
returns-clause-shown c =
    let vs = values_view c.args.vars.now in
    let are = subst (AreValueGrids c.args.k c.args.tags vs) (sym c.as_slice-grids.ensures) c.in_ok-env.ensures in
    let large : is_large c.args.k vs (right_view c.args.right.now) ≡ true = sym c.is_large_enough.ensures ∙ c.if-not-is_large_enough.false in
    one_answer c.args.k c.args.tags vs c.as_slice-grids.result.now c.requires.values are c.in-Var.variable c.args.right.now (pattern_view c.args.left.now) c.words_lie_in_one.result c.in-Var.is large c.words_lie_in_one.ensures

pub returns-in-Pattern-clause-included : goal.returns-in-Pattern-clause-included
returns-in-Pattern-clause-included c =
    answer_included c.args.k c.args.tags (values_view c.args.vars.now) (pattern_view c.args.left.now) (right_view c.args.right.now) c.words_lie_in.result c.requires.fits c.requires.values c.requires.left (returns-in-Pattern-clause-shown c)

pub returns-clause-included : goal.returns-clause-included
returns-clause-included c =
    answer_included c.args.k c.args.tags (values_view c.args.vars.now) (pattern_view c.args.left.now) (right_view c.args.right.now) c.words_lie_in_one.result c.requires.fits c.requires.values c.requires.left (returns-clause-shown c)
