use Rattle.std.proofs.Common.{◌≡◌}
use Rattle.pat_texts_spec.specs.Numbers.{read_number}
use Rattle.pat_texts_spec.specs.Joined.{pieces, read_each, then_read}
use Rattle.pat_texts.specs.Pieces.{pieces_left, left}
use Rattle.pat_derivation_lines.proofs.certificates.read_numbers.Given as goal

abbrev pub invariant-loop-rest : goal.invariant-loop-rest
invariant-loop-rest l = then_read (l.numbers) (read_each read_number (pieces_left 44 l.rest)) ≡ read_each read_number (pieces 44 l.text)

abbrev pub decreases-loop-rest : goal.decreases-loop-rest
decreases-loop-rest l = left l.rest
