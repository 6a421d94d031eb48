use Rattle.std.proofs.Common.{rules, ◌≡◌, ap}
use Rattle.pat_words_spec.specs.Patterns.{Prod, Star}
use Rattle.pat_patterns.specs.Views.{pattern_view}
use Rattle.pat_linear.specs.Views.{forms_view}
use Rattle.pat_linear.proofs.FormOfParts.{tag_below, can_multiply, can_repeat}
use Rattle.pat_linear.proofs.forms.+put_form.Goals as goal

pub only_tag-requires : goal.only_tag-requires
only_tag-requires t c =
    tag_below (pattern_view c.args.p.now) c.in-Tag.tag (ap pattern_view c.in-Tag.is) c.requires.tags

pub join_product-requires : goal.join_product-requires
join_product-requires t c =
    let l = pattern_view c.deref-in-Prod.result.now in
    let r = pattern_view c.deref-in-Prod-2.result.now in
    let shape : Prod l r ≡ pattern_view c.args.p.now = search rules in
    can_multiply (pattern_view c.args.p.now) l r (forms_view c.args.done.now) (forms_view c.put_form-in-Prod.new.done) (forms_view c.put_form-in-Prod-2.new.done) shape c.requires.small c.in_ok-put_form-in-Prod.ensures c.in_ok-put_form-in-Prod-2.ensures

pub join_star-requires : goal.join_star-requires
join_star-requires t c =
    let e = pattern_view c.deref-in-Star.result.now in
    let shape : Star e ≡ pattern_view c.args.p.now = search rules in
    can_repeat (pattern_view c.args.p.now) e (forms_view c.args.done.now) (forms_view c.put_form-in-Star.new.done) shape c.requires.small c.in_ok-put_form-in-Star.ensures
