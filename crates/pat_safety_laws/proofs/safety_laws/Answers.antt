use Rattle.pat_safety_laws.proofs.Progress.{no_fault}
use Rattle.pat_safety_laws.proofs.Safe.{typable_safe, typed_stays}
use Rattle.pat_safety_laws.proofs.safety_laws.Goals as goal

pub returns : goal.returns
returns c = record { faults = no_fault; stays = typed_stays; safe = typable_safe }
