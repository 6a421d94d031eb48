use Rattle.std.proofs.Common.{take}
use Rattle.pat_lexer_spec.specs.Characters.{Each, is_digit}
use Rattle.pat_lexer.proofs.fronts.runs.digit_run.Given as goal

abbrev pub invariant-loop-i : goal.invariant-loop-i
invariant-loop-i l = Each is_digit (take l.i l.text)
