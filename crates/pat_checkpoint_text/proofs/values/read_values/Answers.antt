use Rattle.std.proofs.Common.{rules, subst, map}
use Rattle.pat_reduce_values.specs.ValueViews.{value_view}
use Rattle.pat_checkpoint_spec.specs.text.ValueReading.{read_value}
use Rattle.pat_derivation_lines.specs.patterns.Answers.{Gives}
use Rattle.pat_checkpoint_text.specs.Places.{pieces_left}
use Rattle.pat_checkpoint_text.proofs.Lists.{first_read}
use Rattle.pat_checkpoint_text.proofs.values.read_values.Goals as goal

pub returns : goal.returns
returns c =
    subst (λ o. Gives (map value_view) o c.read_other_values.result)
    (first_read value_view read_value c.args.text.now c.in_ok-value.value c.push.new.self c.first_piece.result.0.now (pieces_left 44 c.first_piece.result.1) (search rules) c.first_piece.ensures.pieces (search rules) (search rules))
    c.read_other_values.ensures
