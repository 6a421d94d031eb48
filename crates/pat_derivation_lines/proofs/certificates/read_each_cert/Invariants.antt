use Rattle.std.proofs.Common.{◌≡◌, map}
use Rattle.pat_derivation_text_spec.specs.LineReading.{read_cert}
use Rattle.pat_derivations.specs.Views.{cert_view}
use Rattle.pat_texts_spec.specs.Joined.{pieces, read_each, then_read}
use Rattle.pat_texts.specs.Pieces.{pieces_left, left}
use Rattle.pat_derivation_lines.proofs.certificates.read_each_cert.Given as goal

abbrev pub invariant-loop-rest : goal.invariant-loop-rest
invariant-loop-rest l = then_read (map cert_view l.certs) (read_each read_cert (pieces_left 32 l.rest)) ≡ read_each read_cert (pieces 32 l.text)

abbrev pub decreases-loop-rest : goal.decreases-loop-rest
decreases-loop-rest l = left l.rest
