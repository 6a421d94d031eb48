use Rattle.std.proofs.Common.{rules, ◌≡◌, ◌∷◌, ap, sym, ◌∙◌}
use Rattle.std.proofs.lemmas.Result.{on_ok_weaker}
use Rattle.pat_words_spec.specs.Patterns.{Sum, Prod, subst_of}
use Rattle.pat_patterns.specs.Views.{pattern_view}
use Rattle.pat_solve_bounded.specs.Limits.{within}
use Rattle.pat_solve_bounded.specs.Views.{parts_view}
use Rattle.pat_solve_bounded.specs.replacing.Replacing.{replaced_by, outcome}
use Rattle.pat_solve_bounded.proofs.Turns.{sum_turn, prod_turn}
use Rattle.pat_solve_bounded.proofs.replacing.replacing.visit.Goals as goal

pub returns-in-Sum-clause-outcome : goal.returns-in-Sum-clause-outcome
returns-in-Sum-clause-outcome c =
    let V = replaced_by c.args.by.now in
    let T = c.args.tasks.now in
    let D = parts_view c.args.done.now in
    let l = pattern_view c.deref.result.now in
    let r = pattern_view c.deref-in-Sum.result.now in
    let shape : Sum l r ≡ pattern_view c.args.p.now = search rules in
    on_ok_weaker c.put_parts.result
    (λ q. q V D ∙ ap (λ x. outcome V T (x ∷ D)) (sym (sum_turn V l r)) ∙ ap (λ e. outcome V T (within (subst_of V e) ∷ D)) shape)
    c.put_parts.ensures.outcome

pub returns-in-Prod-clause-outcome : goal.returns-in-Prod-clause-outcome
returns-in-Prod-clause-outcome c =
    let V = replaced_by c.args.by.now in
    let T = c.args.tasks.now in
    let D = parts_view c.args.done.now in
    let l = pattern_view c.deref-in-Prod.result.now in
    let r = pattern_view c.deref-in-Prod-2.result.now in
    let shape : Prod l r ≡ pattern_view c.args.p.now = search rules in
    on_ok_weaker c.put_parts-in-Prod.result
    (λ q. q V D ∙ ap (λ x. outcome V T (x ∷ D)) (sym (prod_turn V l r)) ∙ ap (λ e. outcome V T (within (subst_of V e) ∷ D)) shape)
    c.put_parts-in-Prod.ensures.outcome
