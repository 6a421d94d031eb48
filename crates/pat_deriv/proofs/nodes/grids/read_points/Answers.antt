use Rattle.std.proofs.Common.{rules}
use Rattle.pat_derivations.specs.Views.{counts_of}
use Rattle.pat_derivation_text_spec.specs.LineReading.{read_point}
use Rattle.pat_texts_spec.specs.Joined.{pieces, read_each}
use Rattle.pat_texts_spec.proofs.Cutting.{turn_seen}
use Rattle.pat_texts.specs.Pieces.{pieces_left}
use Rattle.pat_deriv.proofs.nodes.grids.read_points.Goals as goal

pub loop-rest-preserved : goal.loop-rest-preserved
loop-rest-preserved c =
    turn_seen counts_of (read_point c.args.tags) c.loop-rest.points c.push.new.self c.first_piece.result.0.now (pieces_left 32 c.first_piece.result.1) (pieces 32 c.in-Some.more.now) c.in_ok-point.point (read_each (read_point c.args.tags) (pieces 32 c.args.text.now)) (search rules) c.first_piece.ensures.pieces (search rules) (search rules)
