use Rattle.std.proofs.Common.{◌≡◌, ◌-◌, ◌≤◌, ℕ, List, length}
use Rattle.std.specs.Io.KnownBytes.{Consumes}
use Rattle.pat_ports.specs.Ends.{StaysBefore}
use Rattle.pat_lexer.specs.Lexed.{HasRead}
use Rattle.pat_input.proofs.reading.read_tokens.Given as goal

abbrev pub invariant-loop-total : goal.invariant-loop-total
invariant-loop-total g l = record {
  room : l.total ≤ 1048577;
  read : (bytes : List ℕ) × Consumes (g.S.Source.rest l.fn.source) (g.S.Source.rest l.source) bytes × HasRead bytes l.lexer × (length bytes ≡ l.total);
  unfailed : g.S.Source.faults l.source ≡ g.S.Source.faults l.fn.source;
  before : StaysBefore (g.S.Source.reach l.fn.source) (g.S.Source.reach l.source);
}

abbrev pub decreases-loop-total : goal.decreases-loop-total
decreases-loop-total g l = 1048577 - l.total
