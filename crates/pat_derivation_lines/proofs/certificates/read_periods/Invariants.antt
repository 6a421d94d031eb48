use Rattle.std.proofs.Common.{◌≡◌}
use Rattle.pat_derivation_text_spec.specs.LineReading.{read_numbers}
use Rattle.pat_texts_spec.specs.Joined.{pieces, read_each, then_read}
use Rattle.pat_texts.specs.Pieces.{pieces_left, left}
use Rattle.pat_derivation_lines.proofs.certificates.read_periods.Given as goal

abbrev pub invariant-loop-rest : goal.invariant-loop-rest
invariant-loop-rest l = then_read (l.periods) (read_each read_numbers (pieces_left 59 l.rest)) ≡ read_each read_numbers (pieces 59 l.text)

abbrev pub decreases-loop-rest : goal.decreases-loop-rest
decreases-loop-rest l = left l.rest
