use Rattle.std.proofs.Common.{rules, ◌≡◌, suc, ◌+◌, ◌<◌, Some, None, ap, ap₂, ◌∙◌, subst, arith}
use Rattle.pat_words_spec.specs.Patterns.{prod_of}
use Rattle.pat_words_spec.specs.Sizes.{size_of}
use Rattle.pat_inclusion_spec.specs.Counts.{counted}
use Rattle.pat_inclusion_spec.specs.Points.{count_pattern, point_pattern}
use Rattle.pat_patterns.specs.Views.{pattern_view}
use Rattle.pat_certificate_values.specs.forms.Limits.{Limits}
use Rattle.pat_certificate_values.proofs.Powers.{point_stays, count_stays}
use Rattle.pat_certificate_values.proofs.forms.point_patterns.point.Goals as goal
use Rattle.pat_limits.specs.Limits.{most_nodes}

pub returns-in-None : goal.returns-in-None
returns-in-None c =
    let none : c.in_ok-counted_tag.field-0 ≡ None = search rules in
    let large = subst (Limits (count_pattern c.args.k c.loop-tag.tag c.count_of-count.result)) none c.in_ok-counted_tag.ensures in
    count_stays c.args.k c.loop-tag.tag c.args.tags (counted c.args.own.now.counts) c.loop-tag-test.true
    (subst (λ n. most_nodes < size_of (count_pattern c.args.k c.loop-tag.tag n)) c.count_of-count.ensures large)

pub returns-in-None-2 : goal.returns-in-None-2
returns-in-None-2 c =
    let some : c.in_ok-counted_tag.field-0 ≡ Some c.in-Some.next = search rules in
    let none : c.in_ok-product-in-Some.field-0 ≡ None = search rules in
    let next = (subst (Limits (count_pattern c.args.k c.loop-tag.tag c.count_of-count.result)) some c.in_ok-counted_tag.ensures).0 in
    let large = subst (Limits (prod_of (pattern_view c.loop-tag.made.pattern) (pattern_view c.in-Some.next.pattern))) none c.in_ok-product-in-Some.ensures in
    point_stays c.args.k c.loop-tag.tag c.args.tags (counted c.args.own.now.counts) c.loop-tag-test.true
    (subst (λ x. most_nodes < size_of x) (ap₂ prod_of c.loop-tag.invariant.0 (next ∙ ap (count_pattern c.args.k c.loop-tag.tag) c.count_of-count.ensures)) large)

pub loop-tag-preserved : goal.loop-tag-preserved
loop-tag-preserved c =
    let some : c.in_ok-counted_tag.field-0 ≡ Some c.in-Some.next = search rules in
    let more : c.in_ok-product-in-Some.field-0 ≡ Some c.in-Some-2.more = search rules in
    let next = (subst (Limits (count_pattern c.args.k c.loop-tag.tag c.count_of-count.result)) some c.in_ok-counted_tag.ensures).0 in
    let made = subst (Limits (prod_of (pattern_view c.loop-tag.made.pattern) (pattern_view c.in-Some.next.pattern))) more c.in_ok-product-in-Some.ensures in
    let one_more : suc c.loop-tag.tag ≡ c.loop-tag.tag + 1 = omega arith in (
      made.0 ∙ ap₂ prod_of c.loop-tag.invariant.0 (next ∙ ap (count_pattern c.args.k c.loop-tag.tag) c.count_of-count.ensures) ∙ ap (λ n. point_pattern c.args.k n (counted c.args.own.now.counts)) one_more,
      made.1,
    )
