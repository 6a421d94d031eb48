use Rattle.std.proofs.Common.{◌≡◌, map}
use Rattle.pat_reduce_values.specs.ValueViews.{value_view}
use Rattle.pat_checkpoint_spec.specs.text.Outside.{read_spaced}
use Rattle.pat_checkpoint_spec.specs.text.ValueReading.{read_value}
use Rattle.pat_texts_spec.specs.Joined.{read_each, then_read}
use Rattle.pat_texts.specs.Pieces.{left}
use Rattle.pat_checkpoint_text.specs.Places.{pieces_left}
use Rattle.pat_checkpoint_text.proofs.values.read_other_values.Given as goal

abbrev pub invariant-loop-rest : goal.invariant-loop-rest
invariant-loop-rest l = then_read (map value_view l.values) (read_each (read_spaced read_value) (pieces_left 44 l.rest)) ≡ then_read (map value_view l.initial.values) (read_each (read_spaced read_value) (pieces_left 44 l.others))

abbrev pub decreases-loop-rest : goal.decreases-loop-rest
decreases-loop-rest l = left l.rest
