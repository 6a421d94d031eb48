use Rattle.std.proofs.Common.{◌≡◌, drop}
use Rattle.pat_texts_spec.specs.Numbers.{read_digits}
use Rattle.pat_texts.proofs.numbers.read_digits.Given as goal

abbrev pub invariant-loop-byte : goal.invariant-loop-byte
invariant-loop-byte l = read_digits l.number (drop l.byte-index l.text) ≡ read_digits 0 l.text
