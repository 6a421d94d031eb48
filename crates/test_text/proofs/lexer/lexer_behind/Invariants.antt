use Rattle.std.proofs.Common.{◌≡◌, ◌≤◌, ◌-◌, length, take, None}
use Rattle.pat_lexer.specs.Lexed.{HasRead}
use Rattle.test_text.proofs.lexer.lexer_behind.Given as goal

abbrev pub invariant-loop-at : goal.invariant-loop-at
invariant-loop-at l = record {
  read : HasRead (take l.at l.text) l.lexer;
  going : l.lexer.refusal ≡ None;
  at : l.at ≤ length l.text;
}

abbrev pub decreases-loop-at : goal.decreases-loop-at
decreases-loop-at l = length l.text - l.at
