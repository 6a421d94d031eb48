use Rattle.std.proofs.Common.{rules, ◌≡◌, false, refl}
use Rattle.pat_words_spec.specs.Patterns.{Sum, Prod, Star}
use Rattle.pat_patterns.specs.Views.{pattern_view}
use Rattle.pat_solve_closed_forms.specs.declared.bounds.SetBound.{SetBound}
use Rattle.pat_solve_closed_forms.proofs.Bounding.{same_sum, same_product, same_after_tag, same_star}
use Rattle.pat_solve_closed_forms.proofs.bounds.+add_same.Goals as goal

pub returns-then-add_same : goal.returns-then-add_same
returns-then-add_same t c = λ yes.
    let l = pattern_view c.deref.result.now in
    let k = pattern_view c.deref-in-Sum-Sum.result.now in
    let r = pattern_view c.deref-then-add_same.result.now in
    let m = pattern_view c.deref-then-add_same-2.result.now in
    let left : Sum l r ≡ pattern_view c.args.left.now = search rules in
    let right : Sum k m ≡ pattern_view c.args.right.now = search rules in
    same_sum c.args.bound.now c.add_same.new.bound c.add_same-then-add_same.new.bound (pattern_view c.args.left.now) (pattern_view c.args.right.now) l r k m left right (c.add_same.ensures c.if-add_same.true) (c.add_same-then-add_same.ensures yes)

pub returns-then-add_same-2 : goal.returns-then-add_same-2
returns-then-add_same-2 t c = λ yes.
    let l = pattern_view c.deref-in-Prod-Prod-3.result.now in
    let k = pattern_view c.deref-in-Prod-Prod-4.result.now in
    let r = pattern_view c.deref-in-Prod-Prod-5.result.now in
    let m = pattern_view c.deref-in-Prod-Prod-6.result.now in
    let left : Prod l r ≡ pattern_view c.args.left.now = search rules in
    let right : Prod k m ≡ pattern_view c.args.right.now = search rules in
    same_product c.args.bound.now c.add-then-add_same-2.new.self c.add_same-in-Prod-Prod.new.bound c.add_same-in-Prod-Prod-2.new.bound c.product.result (pattern_view c.args.left.now) (pattern_view c.args.right.now) l r k m left right (c.add_same-in-Prod-Prod.ensures c.if-not-add_same.false) (c.add_same-in-Prod-Prod-2.ensures c.if-add_same-2.true) c.product.ensures.sets c.product.ensures.words (λ bound. c.add-then-add_same-2.ensures (Prod k m) bound yes)

pub returns-then-are_same_tag : goal.returns-then-are_same_tag
returns-then-are_same_tag t c = λ yes.
    let l = pattern_view c.deref-in-Prod-Prod.result.now in
    let k = pattern_view c.deref-in-Prod-Prod-2.result.now in
    let r = pattern_view c.deref-then-are_same_tag.result.now in
    let m = pattern_view c.deref-then-are_same_tag-2.result.now in
    let left : Prod l r ≡ pattern_view c.args.left.now = search rules in
    let right : Prod k m ≡ pattern_view c.args.right.now = search rules in
    let tag = c.are_same_tag.ensures c.if-are_same_tag.true in
    same_after_tag c.args.bound.now c.add_same-then-are_same_tag.new.bound (pattern_view c.args.left.now) (pattern_view c.args.right.now) l r k m tag.0 left right tag.1 tag.2 (c.add_same-then-are_same_tag.ensures yes)

pub returns-then-words : goal.returns-then-words
returns-then-words t c = λ yes.
    let own : SetBound = record { sets = 1; are_words = false } in
    let p = pattern_view c.deref-in-Star-Star.result.now in
    let q = pattern_view c.deref-in-Star-Star-2.result.now in
    let left : Star p ≡ pattern_view c.args.left.now = search rules in
    let right : Star q ≡ pattern_view c.args.right.now = search rules in
    same_star c.args.bound.now c.add-then-words.new.self c.add_same-in-Star-Star.new.bound own (pattern_view c.args.left.now) (pattern_view c.args.right.now) p q left right (c.add_same-in-Star-Star.ensures c.if-not-add_same-2.false) c.if-words.true refl refl (λ bound. c.add-then-words.ensures (Star q) bound yes)
