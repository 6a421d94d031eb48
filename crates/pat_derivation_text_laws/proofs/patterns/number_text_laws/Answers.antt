use Rattle.pat_texts_spec.proofs.Decimals.{number_spelled, number_read}
use Rattle.pat_derivation_text_laws.proofs.patterns.number_text_laws.Goals as goal

pub returns-clause-spelled : goal.returns-clause-spelled
returns-clause-spelled c = number_spelled

pub returns-clause-read : goal.returns-clause-read
returns-clause-read c = number_read
