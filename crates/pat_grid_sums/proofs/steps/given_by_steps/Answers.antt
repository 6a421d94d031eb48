use Rattle.std.proofs.Common.{◌*◌, ap, ◌∙◌, arith}
use Rattle.pat_words_spec.specs.Words.{Word}
use Rattle.pat_words_spec.specs.Cuts.{cut_at}
use Rattle.pat_inclusion_spec.specs.bounds.Numbers.{number_of}
use Rattle.pat_grid_points.specs.symbols.Views.{symbol_view}
use Rattle.pat_grid_points.proofs.Digits.{few_tags}
use Rattle.pat_grid_sums.proofs.Splitting.{some_places, some_all, all_points}
use Rattle.pat_grid_sums.proofs.Summing.{own_shape}
use Rattle.pat_grid_sums.proofs.Stepping.{if_ok, cut_small, zero_stepped, one_stepped, tag_stepped, sum_stepped, product_stepped, star_stepped, lower_stepped, given_stepped}
use Rattle.pat_grid_sums.proofs.steps.given_by_steps.Goals as goal

pub returns-in-Zero : goal.returns-in-Zero
returns-in-Zero c =
    if_ok _ _ _ (λ words h. zero_stepped c.args.system.now c.args.shape c.requires.system c.requires.shape c.args.sets.now c.args.s words (c.symbol_at.ensures ∙ ap symbol_view c.in-Zero.is) h) c.no_bits.ensures

pub returns-in-One : goal.returns-in-One
returns-in-One c =
    if_ok _ _ _ (λ words h. one_stepped c.args.system.now c.args.shape c.requires.system c.requires.shape c.args.sets.now c.args.s words (c.symbol_at.ensures ∙ ap symbol_view c.in-One.is) h) c.point_at.ensures

pub returns-in-Tag : goal.returns-in-Tag
returns-in-Tag c =
    let y = c.args.system.now in
    if_ok _ _ _ (λ words h. tag_stepped y c.args.shape c.requires.system c.requires.shape c.args.sets.now c.args.s _ c.number_of-number.result words (c.symbol_at.ensures ∙ ap symbol_view c.in-Tag.is)
    (c.number_of-number.ensures ∙ ap (λ (w : Word). number_of y.k y.tags (cut_at y.k w)) c.one.ensures) h) c.point_at-in-Tag.ensures

pub returns-in-Sum : goal.returns-in-Sum
returns-in-Sum c =
    if_ok _ _ _ (λ words h. sum_stepped c.args.system.now c.args.shape c.requires.system c.requires.shape c.args.sets.now c.args.s _ _ words (c.symbol_at.ensures ∙ ap symbol_view c.in-Sum.is) h) c.both_of.ensures

pub returns-in-Prod : goal.returns-in-Prod
returns-in-Prod c =
    let y = c.args.system.now in
    let own = own_shape y.k y.tags c.args.shape c.requires.shape in
    if_ok _ _ _ (λ words h. product_stepped y c.args.shape c.requires.system c.requires.shape c.args.sets.now c.args.s _ _ words (c.symbol_at.ensures ∙ ap symbol_view c.in-Prod.is) (h y.tags own)) c.product_of.ensures

pub returns-in-Star : goal.returns-in-Star
returns-in-Star c =
    let y = c.args.system.now in
    let own = own_shape y.k y.tags c.args.shape c.requires.shape in
    if_ok _ _ _ (λ words h. star_stepped y c.args.shape c.requires.system c.requires.shape c.args.sets.now c.args.s _ words (c.symbol_at.ensures ∙ ap symbol_view c.in-Star.is) (some_places y.k y.tags c.args.shape c.requires.shape) (h y.tags own)) c.star_of.ensures

pub returns-in-Lower : goal.returns-in-Lower
returns-in-Lower c =
    if_ok _ _ _ (λ words h. lower_stepped c.args.system.now c.args.shape c.requires.system c.requires.shape c.args.sets.now c.args.s _ c.root_of-root.result words (c.symbol_at.ensures ∙ ap symbol_view c.in-Lower.is) c.root_of-root.ensures h) c.both_of-in-Lower.ensures

pub returns-in-Given : goal.returns-in-Given
returns-in-Given c =
    if_ok _ _ _ (λ words h. given_stepped c.args.system.now c.args.shape c.requires.system c.requires.shape c.args.sets.now c.args.s _ words (c.symbol_at.ensures ∙ ap symbol_view c.in-Given.is) h) c.given_of.ensures

pub point_at-requires-clause-number : goal.point_at-requires-clause-number
point_at-requires-clause-number c = some_all c.args.system.now.k c.args.system.now.tags c.args.shape c.requires.shape

pub one-requires : goal.one-requires
one-requires c =
    let y = c.args.system.now in
    let l = c.requires.system.tags c.args.s _ (c.symbol_at.ensures ∙ ap symbol_view c.in-Tag.is) in
    let f = few_tags y.k y.tags c.requires.system.fits in
    omega arith

pub point_at-requires-in-Tag-clause-number : goal.point_at-requires-in-Tag-clause-number
point_at-requires-in-Tag-clause-number c =
    let y = c.args.system.now in
    let e = c.number_of-number.ensures in
    let all = all_points y.k y.tags c.args.shape c.requires.shape in
    cut_small y.k y.tags c.number_of-number.result _ (c.args.shape.words * c.args.shape.width) c.number_of-number.ensures all
