use Rattle.std.proofs.Common.{◌<◌, sym, subst}
use Rattle.std.specs.Int.{◌∣◌}
use Rattle.std.proofs.lemmas.Nat.Gcd.{mod-eq-zero_of_dvd}
use Rattle.pat_bags.specs.Views.{word_of}
use Rattle.pat_inclusion_spec.specs.Counts.{most_tags}
use Rattle.pat_linear.proofs.Exact.{tags_are}
use Rattle.pat_linear.specs.Views.{words_of}
use Rattle.pat_cover_certificates.proofs.Making.{differ}
use Rattle.pat_cover_certificates.proofs.Divisors.{not_made}
use Rattle.pat_cover_certificates.proofs.coefficients.divisors.are_multiples.Goals as goal

pub returns-then-not-is_multiple_of : goal.returns-then-not-is_multiple_of
returns-then-not-is_multiple_of c = λ _.
    let g = c.common_divisor.result in
    let t = c.loop-t.t in
    let apart = λ (d : g ∣ word_of c.args.word.now t).
    differ c.is_multiple_of.result (c.is_multiple_of.ensures.1 (mod-eq-zero_of_dvd g (subst (λ k. g ∣ k) (sym c.get-count.ensures.value) d))) c.if-not-is_multiple_of.true in
    not_made most_tags g t (words_of c.args.periods.now) (word_of c.args.word.now) (subst (λ n. t < n) (sym tags_are) c.loop-t-test.true) c.common_divisor.ensures apart
