use Rattle.std.proofs.Common.{rules}
use Rattle.pat_derivation_text_spec.specs.LineReading.{read_entry}
use Rattle.pat_cover_certificates.specs.Views.{entry_view}
use Rattle.pat_texts_spec.specs.Joined.{pieces, read_each}
use Rattle.pat_texts_spec.proofs.Cutting.{turn_seen}
use Rattle.pat_texts.specs.Pieces.{pieces_left}
use Rattle.pat_derivation_lines.proofs.certificates.read_entries.Goals as goal

pub loop-rest-preserved : goal.loop-rest-preserved
loop-rest-preserved c =
    turn_seen entry_view read_entry c.loop-rest.entries c.push.new.self c.first_piece.result.0.now (pieces_left 124 c.first_piece.result.1) (pieces 124 c.in-Some.more.now) c.in_ok-entry.entry (read_each read_entry (pieces 124 c.args.text.now)) (search rules) c.first_piece.ensures.pieces (search rules) (search rules)
