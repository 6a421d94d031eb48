use Rattle.std.proofs.Common.{inl, subst, ap, ◌∙◌}
use Rattle.pat_grid_points.specs.symbols.Views.{symbol_view}
use Rattle.pat_grid_sums.specs.Systems.{setting_in}
use Rattle.pat_grid_sums.specs.Systems.{IsPartOf}
use Rattle.pat_grid_sums.proofs.system.parts_of.Goals as goal

pub returns-in-Sum : goal.returns-in-Sum
returns-in-Sum c a h =
    let g = setting_in c.args.system.now in
    subst (λ y. IsPartOf g.flat c.args.s y a) (c.symbol_at.ensures ∙ ap symbol_view c.in-Sum.is) h

pub returns-in-Prod : goal.returns-in-Prod
returns-in-Prod c a h =
    let g = setting_in c.args.system.now in
    subst (λ y. IsPartOf g.flat c.args.s y a) (c.symbol_at.ensures ∙ ap symbol_view c.in-Prod.is) h

pub returns-in-Star : goal.returns-in-Star
returns-in-Star c a h =
    let g = setting_in c.args.system.now in
    subst (λ y. IsPartOf g.flat c.args.s y a) (c.symbol_at.ensures ∙ ap symbol_view c.in-Star.is) h

pub returns-in-Lower : goal.returns-in-Lower
returns-in-Lower c a h =
    let g = setting_in c.args.system.now in
    inl (c.root_of.ensures ∙ subst (λ y. IsPartOf g.flat c.args.s y a) (c.symbol_at.ensures ∙ ap symbol_view c.in-Lower.is) h)
