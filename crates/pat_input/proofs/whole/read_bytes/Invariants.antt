use Rattle.std.proofs.Common.{◌≡◌, ◌-◌, ◌≤◌, length}
use Rattle.std.specs.Io.KnownBytes.{Consumes}
use Rattle.pat_ports.specs.Ends.{StaysBefore}
use Rattle.pat_input.proofs.whole.read_bytes.Given as goal

abbrev pub invariant-loop-total : goal.invariant-loop-total
invariant-loop-total g l = record {
  room : l.total ≤ 67108865;
  counted : length l.bytes.items ≡ l.total;
  read : Consumes (g.S.Source.rest l.fn.source) (g.S.Source.rest l.source) l.bytes.items;
  unfailed : g.S.Source.faults l.source ≡ g.S.Source.faults l.fn.source;
  before : StaysBefore (g.S.Source.reach l.fn.source) (g.S.Source.reach l.source);
}

abbrev pub decreases-loop-total : goal.decreases-loop-total
decreases-loop-total g l = 67108865 - l.total
