use Rattle.pat_safety_laws.proofs.Endings.{live_referred, done_leaves_none, done_leaves_delegated}
use Rattle.pat_safety_laws.proofs.Waiting.{run_waits}
use Rattle.pat_safety_laws.proofs.ending_laws.Goals as goal

pub returns : goal.returns
returns c = record { referred = live_referred; done = done_leaves_none; delegated = done_leaves_delegated; waiting = run_waits }
