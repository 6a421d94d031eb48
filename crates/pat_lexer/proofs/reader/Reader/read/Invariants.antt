use Rattle.std.proofs.Common.{◌≡◌, ◌+◌, ◌-◌, ◌≤◌, length}
use Rattle.pat_lexer.specs.Reads.{Reads}
use Rattle.pat_lexer.proofs.reader.Reader.read.Given as goal

abbrev pub invariant-loop-at : goal.invariant-loop-at
invariant-loop-at l = record {
  position : l.self.position ≡ l.fn.self.position + l.at;
  at : l.at ≤ length l.piece;
  read : Reads l.fn.self l.self l.piece l.at;
}

abbrev pub decreases-loop-at : goal.decreases-loop-at
decreases-loop-at l = length l.piece - l.at
