use Rattle.pat_derivation_text_laws.proofs.Spelled.{pattern_spelled}
use Rattle.pat_derivation_text_laws.proofs.ReadAgain.{pattern_read}
use Rattle.pat_derivation_text_laws.proofs.patterns.pattern_text_laws.Goals as goal

pub returns-clause-spelled : goal.returns-clause-spelled
returns-clause-spelled c = pattern_spelled

pub returns-clause-read : goal.returns-clause-read
returns-clause-read c = pattern_read
