use Rattle.pat_safety_laws.proofs.Preserved.{step_keeps, run_keeps, replay_keeps, run_typed}
use Rattle.pat_safety_laws.proofs.StartTyped.{start_typed}
use Rattle.pat_safety_laws.proofs.preservation.preservation_laws.Goals as goal

pub returns : goal.returns
returns c = record { start = start_typed; steps = step_keeps; runs = run_keeps; replays = replay_keeps; reached = run_typed }
