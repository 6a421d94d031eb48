use Rattle.std.proofs.Common.{◌≡◌, ◌++◌, drop}
use Rattle.pat_print_spec.specs.Text.{quoted}
use Rattle.pat_checkpoint_print.proofs.atoms.put_escaped.Given as goal

abbrev pub invariant-loop-byte : goal.invariant-loop-byte
invariant-loop-byte l = l.out.items ++ quoted (drop l.byte-index l.bytes) ≡ l.initial.out.items ++ quoted l.bytes
