use Rattle.std.proofs.Common.{rules}
use Rattle.pat_texts_spec.specs.Numbers.{read_number}
use Rattle.pat_texts_spec.specs.Joined.{pieces, read_each}
use Rattle.pat_texts_spec.proofs.Cutting.{turn}
use Rattle.pat_texts.specs.Pieces.{pieces_left}
use Rattle.pat_derivation_lines.proofs.certificates.read_numbers.Goals as goal

pub loop-rest-preserved : goal.loop-rest-preserved
loop-rest-preserved c =
    turn read_number c.loop-rest.numbers c.push.new.self c.first_piece.result.0.now (pieces_left 44 c.first_piece.result.1) (pieces 44 c.in-Some.more.now) c.in_ok-number.number (read_each read_number (pieces 44 c.args.text.now)) (search rules) c.first_piece.ensures.pieces (search rules) (search rules)
