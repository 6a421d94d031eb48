use Rattle.std.proofs.Common.{◌≡◌, ◌∙◌, sym, subst, length, get_or, arith}
use Rattle.pat_inclusion_spec.specs.Counts.{most_tags}
use Rattle.pat_linear.specs.Views.{sets_view}
use Rattle.pat_linear.proofs.Lengths.{one_with_one}
use Rattle.pat_linear.proofs.products.product.Goals as goal

pub returns : goal.returns
returns c =
    let first : length c.args.sets ≡ 1 = sym c.len.ensures ∙ c.if-len-eq1.true in
    let read : length c.as_slice.result.now ≡ 1 = omega (arith, c.in-len1.len_at_least, c.in-len1.len_below) in
    let second : length c.args.others ≡ 1 = subst (λ l. length l ≡ 1) c.as_slice.ensures read in
    let other = c.other-item.result in
    let there : other ≡ get_or c.args.others 0 other = subst (λ l. other ≡ get_or l 0 other) c.as_slice.ensures c.other-item.is in
    one_with_one most_tags c.args.sets c.args.others other (sets_view c.in_ok-done.done) first second there c.in_ok-done.ensures
