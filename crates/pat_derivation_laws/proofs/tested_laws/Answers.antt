use Rattle.pat_derivation_laws.proofs.Tested.{word_tested, drop_tested}
use Rattle.pat_derivation_laws.proofs.tested_laws.Goals as goal

pub returns : goal.returns
returns c = record { tested = λ s i e. (word_tested s e, drop_tested s i e) }
