use Rattle.std.proofs.Common.{take}
use Rattle.pat_lexer_spec.specs.Characters.{Each}
use Rattle.pat_lexer.specs.fronts.Bytes.{is_name_byte}
use Rattle.pat_lexer.proofs.fronts.runs.name_run.Given as goal

abbrev pub invariant-loop-i : goal.invariant-loop-i
invariant-loop-i l = Each is_name_byte (take l.i l.text)
