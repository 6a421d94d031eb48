use Rattle.std.proofs.Common.{rules}
use Rattle.pat_derivation_text_spec.specs.LineReading.{read_cert}
use Rattle.pat_derivations.specs.Views.{cert_view}
use Rattle.pat_texts_spec.specs.Joined.{pieces, read_each}
use Rattle.pat_texts_spec.proofs.Cutting.{turn_seen}
use Rattle.pat_texts.specs.Pieces.{pieces_left}
use Rattle.pat_derivation_lines.proofs.certificates.read_each_cert.Goals as goal

pub loop-rest-preserved : goal.loop-rest-preserved
loop-rest-preserved c =
    turn_seen cert_view read_cert c.loop-rest.certs c.push.new.self c.first_piece.result.0.now (pieces_left 32 c.first_piece.result.1) (pieces 32 c.in-Some.more.now) c.in_ok-cert.cert (read_each read_cert (pieces 32 c.args.text.now)) (search rules) c.first_piece.ensures.pieces (search rules) (search rules)
