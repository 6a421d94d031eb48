use Rattle.std.proofs.Common.{arith, ◌≡◌, ◌<◌, true, sym, subst, ◌∙◌}
use Rattle.pat_bags.specs.Views.{word_of}
use Rattle.pat_inclusion_spec.specs.Counts.{most_tags}
use Rattle.pat_linear.proofs.Exact.{tags_are}
use Rattle.pat_linear.specs.Views.{words_of}
use Rattle.pat_cover_certificates.specs.coefficients.Numbers.{tags_occur}
use Rattle.pat_cover_certificates.proofs.Making.{tag_lacks}
use Rattle.pat_cover_certificates.proofs.coefficients.tags.tags_occur.Goals as goal

pub returns-then-not-occurs : goal.returns-then-not-occurs
returns-then-not-occurs c =
    let l = c.loop-t-test.true in
    let e = c.get.ensures.value in
    let h = c.if-get-gt0.true in
    tag_lacks most_tags c.loop-t.t (words_of c.args.periods.now) (word_of c.args.word.now) (subst (λ n. c.loop-t.t < n) (sym tags_are) l) (omega arith) (sym c.occurs.ensures ∙ c.if-not-occurs.true)

pub returns : goal.returns
returns c =
    let a = c.loop-t-test.false in
    let b = c.loop-t.auto.t-end in
    let last : c.loop-t.t ≡ 32 = omega arith in
    sym (subst (λ n. tags_occur n (words_of c.args.periods.now) (word_of c.args.word.now) ≡ true) (last ∙ sym tags_are) c.loop-t.invariant)
