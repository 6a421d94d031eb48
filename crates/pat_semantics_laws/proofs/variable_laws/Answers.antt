use Rattle.pat_semantics_laws.proofs.FreeVars.{free_unfolds}
use Rattle.pat_semantics_laws.proofs.variable_laws.Goals as goal

pub returns : goal.returns
returns c = record { free = free_unfolds }
