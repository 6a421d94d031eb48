use Rattle.std.proofs.Common.{rules, map}
use Rattle.pat_reduce_values.specs.ValueViews.{value_view}
use Rattle.pat_checkpoint_spec.specs.text.Outside.{pieces_outside, read_spaced}
use Rattle.pat_checkpoint_spec.specs.text.ValueReading.{read_value}
use Rattle.pat_texts_spec.specs.Joined.{read_each, then_read}
use Rattle.pat_texts_spec.proofs.Cutting.{turn_seen}
use Rattle.pat_checkpoint_text.specs.Places.{pieces_left}
use Rattle.pat_checkpoint_text.proofs.values.read_other_values.Goals as goal

pub loop-rest-preserved : goal.loop-rest-preserved
loop-rest-preserved c =
    turn_seen value_view (read_spaced read_value) c.loop-rest.values c.push.new.self c.first_piece.result.0.now (pieces_left 44 c.first_piece.result.1) (pieces_outside 44 c.in-Some.more.now) c.in_ok-value.value (then_read (map value_view c.args.values) (read_each (read_spaced read_value) (pieces_left 44 c.args.others))) (search rules) c.first_piece.ensures.pieces (search rules) (search rules)
