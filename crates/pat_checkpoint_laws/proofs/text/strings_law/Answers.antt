use Rattle.pat_checkpoint_laws.proofs.StringsRead.{token_is_string, string_is_token}
use Rattle.pat_checkpoint_laws.proofs.text.strings_law.Goals as goal

pub returns : goal.returns
returns c = λ s. (token_is_string s, string_is_token s)
