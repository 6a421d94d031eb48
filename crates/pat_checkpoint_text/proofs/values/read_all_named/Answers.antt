use Rattle.std.proofs.Common.{rules, subst}
use Rattle.pat_reduce_values.specs.ValueViews.{env_view}
use Rattle.pat_checkpoint_spec.specs.text.ValueReading.{read_named}
use Rattle.pat_derivation_lines.specs.patterns.Answers.{Gives}
use Rattle.pat_checkpoint_text.specs.Places.{pieces_left, named_view}
use Rattle.pat_checkpoint_text.proofs.Lists.{first_read}
use Rattle.pat_checkpoint_text.proofs.values.read_all_named.Goals as goal

pub returns : goal.returns
returns c =
    subst (λ o. Gives env_view o c.read_other_named.result)
    (first_read named_view read_named c.args.text.now c.in_ok-named.named c.push.new.self c.first_piece.result.0.now (pieces_left 44 c.first_piece.result.1) (search rules) c.first_piece.ensures.pieces (search rules) (search rules))
    c.read_other_named.ensures
