use Rattle.pat_resolver_laws.proofs.Given.{kind_given}
use Rattle.pat_resolver_laws.proofs.kind_law.Goals as goal

pub returns : goal.returns
returns c = λ h scope v k t none. kind_given h t scope v k none
