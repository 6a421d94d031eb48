use Rattle.pat_derivation_text_laws.proofs.DerivationSpelled.{whole_text}
use Rattle.pat_derivation_text_laws.proofs.read_is_text_law.Goals as goal

pub returns : goal.returns
returns c = whole_text
