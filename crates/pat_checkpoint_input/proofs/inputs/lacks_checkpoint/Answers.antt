use Rattle.std.proofs.Common.{arith}
use Rattle.pat_derivation_text_spec.specs.DerivationText.{marker}
use Rattle.pat_checkpoint_input.proofs.inputs.lacks_checkpoint.Goals as goal

pub returns-then-bytes-gt-WHOLE_LIMIT-clause-has : goal.returns-then-bytes-gt-WHOLE_LIMIT-clause-has
returns-then-bytes-gt-WHOLE_LIMIT-clause-has c = λ _ small.
    let above = c.if-bytes-gt-WHOLE_LIMIT.true in
    absurd (omega (arith, above, small))

pub returns-in-Some-clause-has : goal.returns-in-Some-clause-has
returns-in-Some-clause-has c = λ none small. c.lacks_behind.ensures.has none

pub returns-in-None-clause-has : goal.returns-in-None-clause-has
returns-in-None-clause-has c = λ none small front text marked few. absurd ((c.split_law.ensures marker c.args.bytes.now).not_both front text marked c.in-None.ensures.unmarked)
