use Rattle.std.proofs.Common.{take}
use Rattle.pat_lexer_spec.specs.Characters.{Each, is_blank}
use Rattle.pat_lexer.proofs.fronts.runs.blank_run.Given as goal

abbrev pub invariant-loop-i : goal.invariant-loop-i
invariant-loop-i l = Each is_blank (take l.i l.text)
