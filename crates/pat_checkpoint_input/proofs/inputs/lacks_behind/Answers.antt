use Rattle.std.proofs.Common.{subst}
use Rattle.std.proofs.lemmas.Bool.{not-true, not-false}
use Rattle.std.proofs.lemmas.List.{take_rest}
use Rattle.pat_derivation_text_spec.specs.DerivationText.{marker}
use Rattle.pat_checkpoint_spec.specs.text.CheckpointText.{marker as checkpoint_marker}
use Rattle.pat_input_split.specs.Marked.{IsUnmarked}
use Rattle.pat_checkpoint_input.specs.Parts.{HasCheckpoint}
use Rattle.pat_checkpoint_input.proofs.Giving.{lacks_at, has_at, far_at}
use Rattle.pat_checkpoint_input.proofs.inputs.lacks_behind.Goals as goal

pub returns-then-at-gt-LIMIT-clause-has : goal.returns-then-at-gt-LIMIT-clause-has
returns-then-at-gt-LIMIT-clause-has c = λ none. far_at c.args.bytes.now c.args.at c.requires.within c.requires.marked (c.split_law.ensures marker c.args.bytes.now) c.if-at-gt-LIMIT.true

pub returns-clause-lacks : goal.returns-clause-lacks
returns-clause-lacks c = λ lacks.
    lacks_at c.args.bytes.now c.args.at c.requires.within c.requires.marked c.requires.small c.if-at-gt-LIMIT.false
    (subst (IsUnmarked checkpoint_marker) (take_rest c.args.bytes.now c.args.at) (c.has_checkpoint.ensures.lacks (not-true c.has_checkpoint.result lacks)))

pub returns-clause-has : goal.returns-clause-has
returns-clause-has c = λ has.
    has_at c.args.bytes.now c.args.at c.requires.within c.requires.marked (c.split_law.ensures marker c.args.bytes.now)
    (subst HasCheckpoint (take_rest c.args.bytes.now c.args.at) (c.has_checkpoint.ensures.has (not-false c.has_checkpoint.result has)))
