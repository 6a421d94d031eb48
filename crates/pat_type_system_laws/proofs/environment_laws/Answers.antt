use Rattle.pat_type_system_laws.proofs.Named.{free_named}
use Rattle.pat_type_system_laws.proofs.Unused.{unused_drops}
use Rattle.pat_type_system_laws.proofs.Unbound.{named_unbound}
use Rattle.pat_type_system_laws.proofs.environment_laws.Goals as goal

pub returns : goal.returns
returns c = record { named = free_named; unused = unused_drops; unbound = named_unbound }
