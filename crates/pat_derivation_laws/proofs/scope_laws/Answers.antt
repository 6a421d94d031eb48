use Rattle.pat_derivation_laws.proofs.ScopeLaws.{scope_of_body, scope_of_part}
use Rattle.pat_derivation_laws.proofs.scope_laws.Goals as goal

pub returns : goal.returns
returns c = record { body = λ p f g x w at. scope_of_body p w x f g at; part = λ p n m c' x w at a. scope_of_part p w x n m c' at a }
