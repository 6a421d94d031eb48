use Rattle.std.proofs.Common.{rules, ◌≡◌, ◌∷◌, Option, ap, sym, ◌∙◌}
use Rattle.std.proofs.lemmas.Result.{on_ok_weaker}
use Rattle.pat_words_spec.specs.Patterns.{Pat, Sum, Prod, Star}
use Rattle.pat_patterns.specs.Views.{pattern_view}
use Rattle.pat_solve_spec.specs.Assignments.{derivative}
use Rattle.pat_solve_bounded.specs.Limits.{within}
use Rattle.pat_solve_bounded.specs.Views.{parts_view}
use Rattle.pat_solve_bounded.specs.replacing.Deriving.{outcome, product_slope, star_slope}
use Rattle.pat_solve_bounded.proofs.Slopes.{sum_slope_is, product_slope_is, star_slope_is}
use Rattle.pat_solve_bounded.proofs.replacing.derivatives.visit.Goals as goal

pub returns-in-Sum-clause-outcome : goal.returns-in-Sum-clause-outcome
returns-in-Sum-clause-outcome c =
    let V = c.args.variable in
    let T = c.args.tasks.now in
    let D = parts_view c.args.done.now in
    let l = pattern_view c.deref.result.now in
    let r = pattern_view c.deref-in-Sum.result.now in
    let shape : Sum l r ≡ pattern_view c.args.p.now = search rules in
    on_ok_weaker c.put_parts.result
    (λ q. q V D ∙ ap (λ x. outcome V T (x ∷ D)) (sym (sum_slope_is V l r)) ∙ ap (λ e. outcome V T (within (derivative V e) ∷ D)) shape)
    c.put_parts.ensures.outcome

pub returns-in-Prod-clause-outcome : goal.returns-in-Prod-clause-outcome
returns-in-Prod-clause-outcome c =
    let V = c.args.variable in
    let T = c.args.tasks.now in
    let D = parts_view c.args.done.now in
    let l = pattern_view c.deref-in-Prod-3.result.now in
    let r = pattern_view c.deref-in-Prod-4.result.now in
    let left : pattern_view c.deref-in-Prod.result.now ≡ l = search rules in
    let right : pattern_view c.deref-in-Prod-2.result.now ≡ r = search rules in
    let shape : Prod l r ≡ pattern_view c.args.p.now = search rules in
    let slopes : Pat → Pat → Option Pat = λ e f. product_slope e f (within (derivative V l)) (within (derivative V r)) in
    on_ok_weaker c.put_parts-in-Prod.result
    (λ q. q V D
    ∙ ap (λ e. outcome V T (slopes e (pattern_view c.deref-in-Prod-2.result.now) ∷ D)) left
    ∙ ap (λ f. outcome V T (slopes l f ∷ D)) right
    ∙ ap (λ x. outcome V T (x ∷ D)) (sym (product_slope_is V l r))
    ∙ ap (λ e. outcome V T (within (derivative V e) ∷ D)) shape)
    c.put_parts-in-Prod.ensures.outcome

pub returns-in-Star-clause-outcome : goal.returns-in-Star-clause-outcome
returns-in-Star-clause-outcome c =
    let V = c.args.variable in
    let T = c.args.tasks.now in
    let D = parts_view c.args.done.now in
    let e = pattern_view c.deref-in-Star-2.result.now in
    let same : pattern_view c.deref-in-Star.result.now ≡ e = search rules in
    let shape : Star e ≡ pattern_view c.args.p.now = search rules in
    on_ok_weaker c.put_part.result
    (λ q. q V D
    ∙ ap (λ x. outcome V T (star_slope x (within (derivative V e)) ∷ D)) same
    ∙ ap (λ x. outcome V T (x ∷ D)) (sym (star_slope_is V e))
    ∙ ap (λ x. outcome V T (within (derivative V x) ∷ D)) shape)
    c.put_part.ensures.outcome
