use Rattle.std.proofs.Common.{◌≡◌, ◌≤◌, take}
use Rattle.pat_lexer_spec.specs.Characters.{Each, is_digit, number_after}
use Rattle.pat_lexer.proofs.fronts.runs.number_with.Given as goal

abbrev pub invariant-loop-digit : goal.invariant-loop-digit
invariant-loop-digit l = record {
  number : l.n ≡ number_after l.fn.number (take l.digit-index l.digits);
  narrow : l.n ≤ 9223372036854775807;
  each : Each is_digit l.digits;
}
