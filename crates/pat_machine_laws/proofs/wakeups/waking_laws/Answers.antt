use Rattle.pat_machine_laws.proofs.Names.{locals_name}
use Rattle.pat_machine_laws.proofs.Wakes.{others_wake, others_open}
use Rattle.pat_machine_laws.proofs.wakeups.waking_laws.Goals as goal

pub returns : goal.returns
returns c = record { wake = others_wake; opens = others_open; names = locals_name }
