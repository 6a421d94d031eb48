use Rattle.std.proofs.Common.{◌≡◌, map}
use Rattle.pat_derivation_text_spec.specs.LineReading.{read_entry}
use Rattle.pat_cover_certificates.specs.Views.{entry_view}
use Rattle.pat_texts_spec.specs.Joined.{pieces, read_each, then_read}
use Rattle.pat_texts.specs.Pieces.{pieces_left, left}
use Rattle.pat_derivation_lines.proofs.certificates.read_entries.Given as goal

abbrev pub invariant-loop-rest : goal.invariant-loop-rest
invariant-loop-rest l = then_read (map entry_view l.entries) (read_each read_entry (pieces_left 124 l.rest)) ≡ read_each read_entry (pieces 124 l.text)

abbrev pub decreases-loop-rest : goal.decreases-loop-rest
decreases-loop-rest l = left l.rest
