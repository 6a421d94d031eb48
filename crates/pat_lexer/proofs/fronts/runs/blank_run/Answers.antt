use Rattle.std.proofs.Common.{sym, ◌∙◌}
use Rattle.pat_lexer_spec.specs.Characters.{is_blank}
use Rattle.pat_lexer_laws.proofs.Runs.{each_more}
use Rattle.pat_lexer.proofs.fronts.runs.blank_run.Goals as goal

pub loop-i-preserved : goal.loop-i-preserved
loop-i-preserved c =
    each_more is_blank c.args.text.now c.loop-i.i c.loop-i-test.true c.loop-i.invariant (sym c.is_blank.ensures ∙ c.if-not-is_blank.false)
