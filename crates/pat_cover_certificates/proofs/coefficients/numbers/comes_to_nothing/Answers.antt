use Rattle.std.proofs.Common.{◌≡◌, true, ap, ◌∙◌, sym, subst, drop}
use Rattle.std.proofs.Math.Seq.{drop-length}
use Rattle.pat_bags.specs.Views.{word_of}
use Rattle.pat_inclusion_spec.specs.Counts.{most_tags}
use Rattle.pat_linear.specs.Views.{words_of}
use Rattle.pat_cover_certificates.specs.coefficients.Numbers.{NoNumbers, tags_occur}
use Rattle.pat_cover_certificates.proofs.Making.{none_made, nothing_left}
use Rattle.pat_cover_certificates.proofs.Standing.{test_says, came_dropped}
use Rattle.pat_cover_certificates.proofs.coefficients.numbers.comes_to_nothing.Goals as goal

pub returns-then-not-tags_occur-clause-nothing : goal.returns-then-not-tags_occur-clause-nothing
returns-then-not-tags_occur-clause-nothing c = λ _.
    none_made most_tags (words_of (drop c.args.place c.args.periods.now)) (word_of c.args.left.now)
    (sym (test_says most_tags c.args.periods.now c.args.place (word_of c.args.left.now) c.tags_occur.result c.tags_occur.ensures) ∙ c.if-not-tags_occur.true)

pub returns-clause-nothing : goal.returns-clause-nothing
returns-clause-nothing c = λ h.
    subst (λ l. NoNumbers most_tags l (word_of c.args.left.now)) (came_dropped c.args.periods.now c.args.place)
    (c.has_failed.ensures h most_tags (words_of c.args.periods.now) c.requires.failed)

pub returns-clause-end : goal.returns-clause-end
returns-clause-end c = λ h e.
    let test = test_says most_tags c.args.periods.now c.args.place (word_of c.args.left.now) c.tags_occur.result c.tags_occur.ensures in
    nothing_left most_tags (word_of c.args.left.now)
    (subst (λ l. tags_occur most_tags (words_of l) (word_of c.args.left.now) ≡ true) (ap (λ k. drop k c.args.periods.now) e ∙ drop-length c.args.periods.now) (sym test ∙ c.if-not-tags_occur.false))
