use Rattle.std.proofs.Common.{arith, subst}
use Rattle.std.specs.Int.{◌∣◌}
use Rattle.std.proofs.lemmas.Nat.Gcd.{dvd_refl, dvd_trans}
use Rattle.pat_words_spec.specs.Words.{Word}
use Rattle.pat_bags.specs.Views.{word_of}
use Rattle.pat_cover_certificates.proofs.Lists.{all_more, all_end}
use Rattle.pat_cover_certificates.proofs.coefficients.divisors.common_divisor.Goals as goal

pub loop-period-preserved : goal.loop-period-preserved
loop-period-preserved c g h =
    let both = c.greatest_divisor-divisor.ensures in
    let own = subst (λ k. g ∣ k) c.get.ensures.value (dvd_trans g h both.1) in
    all_more (λ (p : Word). g ∣ p c.args.tag) word_of c.args.periods.now c.loop-period.period-index _ c.loop-period-test.true
    (c.loop-period.invariant g (dvd_trans g h both.0))
    own

pub returns : goal.returns
returns c =
    let a = c.loop-period-test.false in
    all_end (λ (p : Word). c.loop-period.divisor ∣ p c.args.tag) word_of c.args.periods.now c.loop-period.period-index (omega arith) (c.loop-period.invariant c.loop-period.divisor (dvd_refl c.loop-period.divisor))
