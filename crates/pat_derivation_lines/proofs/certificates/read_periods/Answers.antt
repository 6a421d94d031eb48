use Rattle.std.proofs.Common.{rules}
use Rattle.pat_derivation_text_spec.specs.LineReading.{read_numbers}
use Rattle.pat_texts_spec.specs.Joined.{pieces, read_each}
use Rattle.pat_texts_spec.proofs.Cutting.{turn}
use Rattle.pat_texts.specs.Pieces.{pieces_left}
use Rattle.pat_derivation_lines.proofs.certificates.read_periods.Goals as goal

pub loop-rest-preserved : goal.loop-rest-preserved
loop-rest-preserved c =
    turn read_numbers c.loop-rest.periods c.push.new.self c.first_piece.result.0.now (pieces_left 59 c.first_piece.result.1) (pieces 59 c.in-Some.more.now) c.in_ok-numbers.numbers (read_each read_numbers (pieces 59 c.args.text.now)) (search rules) c.first_piece.ensures.pieces (search rules) (search rules)
