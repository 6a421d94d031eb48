use Rattle.pat_machine_laws.proofs.Once.{typed_once}
use Rattle.pat_machine_laws.proofs.Parts.{run_parts, replay_parts, machine_names}
use Rattle.pat_machine_laws.proofs.refcounts.few_laws.Goals as goal

pub returns : goal.returns
returns c = record { once = typed_once; runs = run_parts; replays = replay_parts; machine = machine_names }
