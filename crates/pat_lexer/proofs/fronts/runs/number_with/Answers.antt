use Rattle.std.proofs.Common.{◌≡◌, ◌≤◌, ◌+◌, ℕ, true, arith}
use Rattle.std.proofs.lemmas.Bool.Decides.{nat_tests}
use Rattle.pat_lexer_spec.specs.Characters.{is_digit}
use Rattle.pat_lexer_laws.proofs.Runs.{each_at}
use Rattle.pat_lexer_laws.proofs.Numbers.{number_more, number_front}
use Rattle.pat_lexer.proofs.fronts.runs.number_with.Goals as goal

digit_low : (b : ℕ) → is_digit b ≡ true → 48 ≤ b
digit_low b d = grind (arith, nat_tests)

pub overflow_sub-digit : goal.overflow_sub-digit
overflow_sub-digit c = digit_low _ (each_at is_digit c.args.digits.now c.loop-digit.digit-index c.requires.digits c.loop-digit-test.true)

pub returns-then-n-value-clause-wide : goal.returns-then-n-value-clause-wide
returns-then-n-value-clause-wide c =
    let digits = c.args.digits.now in
    let i = c.loop-digit.digit-index in
    let more = number_more c.args.number digits i c.loop-digit-test.true in
    let front = number_front c.args.number digits (i + 1) in
    let so_far = c.loop-digit.invariant.number in
    omega (arith, more, front, so_far)

pub loop-digit-preserved : goal.loop-digit-preserved
loop-digit-preserved c =
    let more = number_more c.args.number c.args.digits.now c.loop-digit.digit-index c.loop-digit-test.true in
    record {
      number = omega (arith, more, c.loop-digit.invariant.number);
      narrow = omega arith;
      each = c.loop-digit.invariant.each;
    }
