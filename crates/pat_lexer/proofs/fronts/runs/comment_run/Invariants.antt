use Rattle.std.proofs.Common.{take}
use Rattle.pat_lexer_spec.specs.Characters.{Each}
use Rattle.pat_lexer.specs.fronts.Bytes.{is_comment_byte}
use Rattle.pat_lexer.proofs.fronts.runs.comment_run.Given as goal

abbrev pub invariant-loop-i : goal.invariant-loop-i
invariant-loop-i l = Each is_comment_byte (take l.i l.text)
