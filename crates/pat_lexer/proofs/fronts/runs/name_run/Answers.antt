use Rattle.std.proofs.Common.{sym, ◌∙◌}
use Rattle.pat_lexer.specs.fronts.Bytes.{is_name_byte}
use Rattle.pat_lexer_laws.proofs.Runs.{each_more}
use Rattle.pat_lexer.proofs.fronts.runs.name_run.Goals as goal

pub loop-i-preserved : goal.loop-i-preserved
loop-i-preserved c =
    each_more is_name_byte c.args.text.now c.loop-i.i c.loop-i-test.true c.loop-i.invariant (sym c.is_name_byte.ensures ∙ c.if-not-is_name_byte.false)
