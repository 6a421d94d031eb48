use Rattle.pat_derivation_text_spec.specs.DerivationText.{marker}
use Rattle.pat_command_verify.proofs.Once.{one_answer}
use Rattle.pat_command_verify.proofs.laws.verify_law.Goals as goal

pub returns : goal.returns
returns c = λ bytes. one_answer c.first_bad_laws.ensures.none c.reading_is_one_law.ensures bytes (c.program_law.ensures marker bytes)
