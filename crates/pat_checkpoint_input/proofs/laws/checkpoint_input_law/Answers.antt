use Rattle.pat_derivation_text_spec.specs.DerivationText.{marker}
use Rattle.pat_checkpoint_input.proofs.Once.{one_answer}
use Rattle.pat_checkpoint_input.proofs.laws.checkpoint_input_law.Goals as goal

pub returns : goal.returns
returns c = λ bytes.
    one_answer c.first_bad_laws.ensures.none c.reading_is_one_law-2.ensures c.reading_is_one_law.ensures.checkpoint c.reading_is_one_law.ensures.place c.reading_is_one_law.ensures.other c.split_law.ensures bytes (c.program_law.ensures marker bytes)
