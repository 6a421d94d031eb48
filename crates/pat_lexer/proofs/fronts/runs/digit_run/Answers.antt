use Rattle.std.proofs.Common.{sym, ◌∙◌}
use Rattle.pat_lexer_spec.specs.Characters.{is_digit}
use Rattle.pat_lexer_laws.proofs.Runs.{each_more}
use Rattle.pat_lexer.proofs.fronts.runs.digit_run.Goals as goal

pub loop-i-preserved : goal.loop-i-preserved
loop-i-preserved c =
    each_more is_digit c.args.text.now c.loop-i.i c.loop-i-test.true c.loop-i.invariant (sym c.is_ascii_digit.ensures.value ∙ c.if-not-is_ascii_digit.false)
