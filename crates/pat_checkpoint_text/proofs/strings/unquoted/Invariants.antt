use Rattle.std.proofs.Common.{◌≡◌, drop}
use Rattle.std.specs.Prelude.{false}
use Rattle.pat_checkpoint_spec.specs.text.ValueReading.{unquoted}
use Rattle.pat_texts_spec.specs.Joined.{then_read}
use Rattle.pat_checkpoint_text.proofs.strings.unquoted.Given as goal

abbrev pub invariant-loop-byte : goal.invariant-loop-byte
invariant-loop-byte l = then_read l.own (unquoted l.escaped (drop l.byte-index l.raw)) ≡ unquoted false l.raw
