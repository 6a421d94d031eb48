use Rattle.std.proofs.Common.{rules}
use Rattle.pat_reduce_values.specs.ValueViews.{env_view}
use Rattle.pat_checkpoint_spec.specs.text.Outside.{pieces_outside, read_spaced}
use Rattle.pat_checkpoint_spec.specs.text.ValueReading.{read_named}
use Rattle.pat_texts_spec.specs.Joined.{read_each, then_read}
use Rattle.pat_texts_spec.proofs.Cutting.{turn_seen}
use Rattle.pat_checkpoint_text.specs.Places.{pieces_left, named_view}
use Rattle.pat_checkpoint_text.proofs.values.read_other_named.Goals as goal

pub loop-rest-preserved : goal.loop-rest-preserved
loop-rest-preserved c =
    turn_seen named_view (read_spaced read_named) c.loop-rest.env c.push.new.self c.first_piece.result.0.now (pieces_left 44 c.first_piece.result.1) (pieces_outside 44 c.in-Some.more.now) c.in_ok-named.named (then_read (env_view c.args.env) (read_each (read_spaced read_named) (pieces_left 44 c.args.others))) (search rules) c.first_piece.ensures.pieces (search rules) (search rules)
