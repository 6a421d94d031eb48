use Rattle.std.proofs.Common.{◌≡◌, ◌≤◌, drop}
use Rattle.pat_checkpoint_spec.specs.text.Integers.{read_more}
use Rattle.pat_checkpoint_text.proofs.integers.read_more.Given as goal

abbrev pub invariant-loop-byte : goal.invariant-loop-byte
invariant-loop-byte l = record {
  value : read_more l.limit l.number (drop l.byte-index l.text) ≡ read_more l.limit 0 l.text;
  small : l.number ≤ l.limit;
}
